-- A path is kept if it is that of a place, and is not elsewhere.
use Rattle.std.proofs.Common.{◌≡◌, ◌↔◌, ℕ, [], ◌∷◌, ◌++◌, Bool, true, false, refl, sym, ◌∙◌, ap, cond, length, take, drop, codes, arith, Option, Some, None, MatchOption, IfSome, IsNone, IsUtf8}
use Rattle.std.proofs.lemmas.Bool.{false_from_ne_true, true_from_ne_false, Decides.{Decides-eqb, nat_tests}}
use Rattle.std.proofs.lemmas.Slice.Eq.{starts_is, ends_is}
use Rattle.std.specs.Prelude.{◌-◌, ◌==◌, ◌||◌, ◌&&◌, nat_eq, nat_lt, nat_le, not, is_some}
use Rattle.std.specs.List.{list_any, list_all, starts_with, ends_with}
use Rattle.std.specs.Cmp.Lexicographic.{texts_ties, pointwise}
use Rattle.ocfl_report.specs.declared.code.Code.TheVariants.{E099, E100, S06}
use Rattle.ocfl_tree.specs.{Place.{Text, Place, text_eq}, Name.{IsPlace}}
use Rattle.ocfl_tree.specs.Path.{elements, names_of, fits}
use Rattle.ocfl_tree.proofs.{Orders.{true_not_false}, PathNames.{has_zero}, Paths.{elements-append}}
use Rattle.ocfl_tree.proofs.PathNames.{names_are, place_from_tests, place_fits, place_has_no_zero}
use Rattle.ocfl_inventory.specs.ListedPath.{is_empty_or_dots, is_too_long_or_nul, is_content_path, is_kept, is_too_long}
use Rattle.ocfl_inventory.proofs.PathTexts.{too_long_or_nul_is}

-- ---- a name by its tests

some_bytes : (c : ℕ) (n : Text) → (length (c ∷ n) == 0) ≡ false
some_bytes c n = grind (arith, nat_tests)

fits_is : (n : Text) → fits n ≡ not (is_empty_or_dots n || is_too_long n)
fits_is n = by (length n == 0) (nat_le (length n) 255) (pointwise nat_eq n (codes ".")) (pointwise nat_eq n (codes "..")) (text_eq n []) (empty n)
    (text_eq n (codes ".")) (texts_ties n (codes ".")) (text_eq n (codes "..")) (texts_ties n (codes "..")) (is_too_long n) long
  where
    empty : (n : Text) → (length n == 0) ≡ text_eq n []
    empty [] = refl
    empty (c ∷ n) = some_bytes c n

    long : nat_le (length n) 255 ≡ not (is_too_long n)
    long = grind (arith, nat_tests)

    by : (a b c d a2 : Bool) → a ≡ a2 → (c2 : Bool) → c ≡ c2 → (d2 : Bool) → d ≡ d2 → (l : Bool) → b ≡ not l → (not a && b && not c && not d) ≡ not ((a2 || c2 || d2) || l)
    by a b c d a2 e c2 f d2 g l h = (λ i. not (e i) && h i && not (f i) && not (g i)) ∙ same a2 c2 d2 l
      where
        same : (a c d l : Bool) → (not a && not l && not c && not d) ≡ not ((a || c || d) || l)
        same true c d l = refl
        same false true d true = refl
        same false true d false = refl
        same false false true true = refl
        same false false true false = refl
        same false false false true = refl
        same false false false false = refl

all_fit_is : (ns : Place) → list_all fits ns ≡ not (list_any is_empty_or_dots ns || list_any is_too_long ns)
all_fit_is [] = refl
all_fit_is (n ∷ ns) = (λ i. fits_is n i && all_fit_is ns i) ∙ same (is_empty_or_dots n) (is_too_long n) (list_any is_empty_or_dots ns) (list_any is_too_long ns)
  where
    same : (a b c d : Bool) → (not (a || b) && not (c || d)) ≡ not ((a || c) || (b || d))
    same true b c d = refl
    same false true true d = refl
    same false true false d = refl
    same false false c d = refl

-- ---- the ends of a path

dots_in_front : (u v : Place) → list_any is_empty_or_dots v ≡ true → list_any is_empty_or_dots (u ++ v) ≡ true
dots_in_front [] v h = h
dots_in_front (n ∷ u) v h = by (is_empty_or_dots n) (dots_in_front u v h)
  where
    by : (b : Bool) → list_any is_empty_or_dots (u ++ v) ≡ true → b || list_any is_empty_or_dots (u ++ v) ≡ true
    by true k = refl
    by false k = k

starts_dotted : (t : Text) → starts_with nat_eq t (codes "/") ≡ true → list_any is_empty_or_dots (elements t) ≡ true
starts_dotted t h =
    let e : t ≡ codes "/" ++ drop 1 t = (starts_is Decides-eqb t (codes "/") (starts_with nat_eq t (codes "/")) refl).0 h in
    ap (λ u. list_any is_empty_or_dots (elements u)) e

ends_dotted : (t : Text) → ends_with nat_eq t (codes "/") ≡ true → list_any is_empty_or_dots (elements t) ≡ true
ends_dotted t h =
    let e : t ≡ take (length t - 1) t ++ codes "/" = (ends_is Decides-eqb t (codes "/") (ends_with nat_eq t (codes "/")) refl).0 h in
    ap (λ u. list_any is_empty_or_dots (elements u)) e ∙ ap (list_any is_empty_or_dots) (elements-append (take (length t - 1) t) [])
    ∙ dots_in_front (elements (take (length t - 1) t)) (elements []) refl

-- ---- what is kept

abbrev pub lies_elsewhere : Text → Text → Bool
lies_elsewhere content t = not (is_content_path content (elements t)) || nat_lt 128 (length (elements t))

pub elsewhere_is_bad : (content t : Text) → lies_elsewhere content t ≡ true → is_kept content t ≡ false
elsewhere_is_bad content t h = by (starts_with nat_eq t (codes "/") || ends_with nat_eq t (codes "/")) (list_any is_empty_or_dots (elements t))
    (not (is_content_path content (elements t))) (nat_lt 128 (length (elements t))) (list_any is_too_long_or_nul (elements t)) h
  where
    by : (a b c d e : Bool) → c || d ≡ true → not (is_some (cond a (Some E100) (cond b (Some E099) (cond (c || d || e) (Some S06) None)))) ≡ false
    by true b c d e k = refl
    by false true c d e k = refl
    by false false true d e k = refl
    by false false false true e k = refl
    by false false false false e k = absurd (true_not_false (sym k))

kept_by_tests : (content t : Text) → lies_elsewhere content t ≡ false → is_kept content t ≡ not (list_any is_empty_or_dots (elements t) || list_any is_too_long_or_nul (elements t))
kept_by_tests content t h = by (starts_with nat_eq t (codes "/")) (ends_with nat_eq t (codes "/")) (list_any is_empty_or_dots (elements t))
    (not (is_content_path content (elements t))) (nat_lt 128 (length (elements t))) (list_any is_too_long_or_nul (elements t)) (starts_dotted t) (ends_dotted t) h
  where
    by : (a z b c d e : Bool) → (a ≡ true → b ≡ true) → (z ≡ true → b ≡ true) → c || d ≡ false
        → not (is_some (cond (a || z) (Some E100) (cond b (Some E099) (cond (c || d || e) (Some S06) None)))) ≡ not (b || e)
    by true z true c d e f g k = refl
    by true z false c d e f g k = absurd (true_not_false (sym (f refl)))
    by false true true c d e f g k = refl
    by false true false c d e f g k = absurd (true_not_false (sym (g refl)))
    by false false true c d e f g k = refl
    by false false false false false true f g k = refl
    by false false false false false false f g k = refl
    by false false false true d e f g k = absurd (true_not_false k)
    by false false false false true e f g k = absurd (true_not_false k)

tests : (t : Text) → not (list_any is_empty_or_dots (elements t) || list_any is_too_long_or_nul (elements t)) ≡ (list_all fits (elements t) && not (has_zero t))
tests t = ap (λ b. not (list_any is_empty_or_dots (elements t) || b)) (too_long_or_nul_is t)
    ∙ same (list_any is_empty_or_dots (elements t)) (list_any is_too_long (elements t)) (has_zero t) ∙ ap (λ b. b && not (has_zero t)) (sym (all_fit_is (elements t)))
  where
    same : (a b c : Bool) → not (a || (b || c)) ≡ (not (a || b) && not c)
    same true b c = refl
    same false true c = refl
    same false false c = refl

both : (a b : Bool) → a && not b ≡ true → (a ≡ true) × (b ≡ false)
both true true h = absurd (true_not_false (sym h))
both true false h = (refl, refl)
both false b h = absurd (true_not_false (sym h))

not_empty : (content t : Text) → lies_elsewhere content t ≡ false → (length t == 0) ≡ false
not_empty content [] h = absurd (true_not_false h)
not_empty content (c ∷ t) h = some_bytes c t

kept_fits : (content t : Text) → lies_elsewhere content t ≡ false → is_kept content t ≡ (list_all fits (elements t) && not (has_zero t))
kept_fits content t h = kept_by_tests content t h ∙ tests t

kept_names : (content t : Text) → IsUtf8 t → lies_elsewhere content t ≡ false → is_kept content t ≡ true → IsPlace (names_of t)
kept_names content t u h k =
    let w = both _ _ (sym (kept_fits content t h) ∙ k) in
    place_from_tests t u (not_empty content t h) w.1 w.0

names_kept : (content t : Text) → lies_elsewhere content t ≡ false → IsPlace (names_of t) → is_kept content t ≡ true
names_kept content t h p =
    let some = not_empty content t h in
    kept_fits content t h ∙ (λ i. place_fits t some p i && not (place_has_no_zero t some p i))

pub kept_from_path : (content t : Text) (o : Option Place) → IsUtf8 t → lies_elsewhere content t ≡ false → IfSome o (λ p. p ≡ names_of t) → IsNone o ↔ (IsPlace (names_of t) → ⊥)
    → MatchOption o (is_kept content t ≡ false) (λ p. (is_kept content t ≡ true) × (p ≡ elements t))
kept_from_path content t None u h some none = false_from_ne_true (is_kept content t) (λ e. none.0 refl (kept_names content t u h e))
kept_from_path content t (Some p) u h some none =
    (true_from_ne_false (is_kept content t) (λ e. let none = none.1 (λ q. true_not_false (sym (names_kept content t h q) ∙ e)) in cc), some ∙ names_are t (not_empty content t h))
