-- Which texts are the paths of places.
use Rattle.std.proofs.Common.{◌≡◌, ◌≢◌, ◌⊎◌, inl, inr, ℕ, zero, suc, ◌+◌, ◌<◌, [], ◌∷◌, ◌++◌, Bool, true, false, refl, sym, ◌∙◌, ap, subst, cond, length, get_or, arith, codes, not, IsUtf8, length-append}
use Rattle.std.proofs.lemmas.Bool.{and_parts, leb-true, not-true}
use Rattle.std.proofs.lemmas.Bool.Decides.{eqb_tells, nat_tests}
use Rattle.std.proofs.lemmas.Slice.Eq.{bytes_eq-Decides}
use Rattle.std.proofs.Math.Seq.{take-append_seam, drop-append-add, get_or-append_seam}
use Rattle.std.proofs.lemmas.List.Elements.{All-nil, All-cons, All-head, All-tail}
use Rattle.std.proofs.lemmas.Str.{IsUtf8-take, IsUtf8-drop, IsCharBoundary-before_ascii, IsCharBoundary-after_ascii}
use Rattle.std.specs.Prelude.{◌==◌, ◌||◌, nat_eq, nat_le, All}
use Rattle.std.specs.{List.{list_any, list_all, onto_first}, Cmp.Lexicographic.{pointwise}}
use Rattle.ocfl_tree.specs.{Place.{Text, Place}, Name.{IsName, IsPlace}}
use Rattle.ocfl_tree.specs.Path.{elements, names_of, fits}
use Rattle.ocfl_tree.proofs.{Orders.{true_not_false}, Places.{differ}}
use Rattle.ocfl_tree.proofs.PathOrders.{some_element, slash_is}
use Rattle.ocfl_tree.proofs.Paths.{Lacks, lone_element, elements-append}

-- ---- the elements of a text are texts

-- a text without a slash, or what is around its first one
abbrev IsCut : Text → Type 0
IsCut t = Lacks t ⊎ ((x : Text) × (y : Text) × (t ≡ x ++ 47 ∷ y) × Lacks x)

lacks_more : (c : ℕ) (t : Text) → c ≢ 47 → Lacks t → Lacks (c ∷ t)
lacks_more c t h k zero l = h
lacks_more c t h k (suc i) l = k i (omega arith)

cut : (t : Text) → IsCut t
cut [] = inl (λ i l. absurd (omega arith))
cut (c ∷ t) = by (eqb_tells c 47) (cut t)
  where
    by : (((c == 47) ≡ true) × (c ≡ 47)) ⊎ (((c == 47) ≡ false) × (c ≢ 47)) → IsCut t → IsCut (c ∷ t)
    by (inl w) k = inr ([], t, ap (λ b. b ∷ t) w.1, λ i l. absurd (omega arith))
    by (inr w) (inl k) = inl (lacks_more c t w.1 k)
    by (inr w) (inr k) = inr (c ∷ k.0, k.1, ap (λ u. c ∷ u) k.2, lacks_more c k.0 w.1 k.3)

slash_at : (x y : Text) → get_or (x ++ 47 ∷ y) (length x) 0 < 128
slash_at x y = let here = get_or-append_seam x 47 y 0 in omega (arith, here)

slash_within : (x y : Text) → length x < length (x ++ 47 ∷ y)
slash_within x y = omega (arith, length-append x (47 ∷ y))

utf8_before : (x y : Text) → IsUtf8 (x ++ 47 ∷ y) → IsUtf8 x
utf8_before x y u = subst IsUtf8 (take-append_seam x (47 ∷ y)) (IsUtf8-take (x ++ 47 ∷ y) (length x) u (IsCharBoundary-before_ascii (x ++ 47 ∷ y) (length x) (slash_within x y) (slash_at x y)))

utf8_behind : (x y : Text) → IsUtf8 (x ++ 47 ∷ y) → IsUtf8 y
utf8_behind x y u = subst IsUtf8 (drop-append-add x (47 ∷ y) 1) (IsUtf8-drop (x ++ 47 ∷ y) (length x + 1) u (IsCharBoundary-after_ascii (x ++ 47 ∷ y) (length x) u (slash_within x y) (slash_at x y)))

utf8_within : (k : ℕ) (t : Text) → length t < k → IsUtf8 t → All IsUtf8 (elements t)
utf8_within zero t h u = absurd (omega arith)
utf8_within (suc k) t h u = by (cut t) (utf8_within k)
  where
    by : IsCut t → ((y : Text) → length y < k → IsUtf8 y → All IsUtf8 (elements y)) → All IsUtf8 (elements t)
    by (inl lacks) more = subst (All IsUtf8) (sym (lone_element t lacks)) (All-cons IsUtf8 t [] u (All-nil IsUtf8))
    by (inr w) more =
        let x = w.0 in
        let y = w.1 in
        let v : IsUtf8 (x ++ 47 ∷ y) = subst IsUtf8 w.2 u in
        let parts : elements t ≡ x ∷ elements y = ap elements w.2 ∙ elements-append x y ∙ ap (λ ns. ns ++ elements y) (lone_element x w.3) in
        let shorter : length y < k = omega (arith, ap length w.2, length-append x (47 ∷ y)) in
        subst (All IsUtf8) (sym parts) (All-cons IsUtf8 x (elements y) (utf8_before x y v) (more y shorter (utf8_behind x y v)))

utf8_elements : (t : Text) → IsUtf8 t → All IsUtf8 (elements t)
utf8_elements t u = utf8_within (suc (length t)) t (omega arith) u

-- ---- bytes that no element has

abbrev has_slash : Text → Bool
has_slash n = list_any (λ b. b == 47) n

abbrev pub has_zero : Text → Bool
has_zero n = list_any (λ b. b == 0) n

no_slash_behind : (c : ℕ) (xs : Place) → (xs ≡ [] → ⊥) → (c == 47) ≡ false → list_any has_slash xs ≡ false → list_any has_slash (onto_first c xs) ≡ false
no_slash_behind c [] k e h = absurd (k refl)
no_slash_behind c (x ∷ xs) k e h = rw e h

no_slash : (t : Text) → list_any has_slash (elements t) ≡ false
no_slash [] = refl
no_slash (c ∷ t) = by (c == 47) refl (no_slash t)
  where
    by : (b : Bool) → (c == 47) ≡ b → list_any has_slash (elements t) ≡ false → list_any has_slash (cond b ([] ∷ elements t) (onto_first c (elements t))) ≡ false
    by true e h = h
    by false e h = no_slash_behind c (elements t) (some_element t) e h

zero_behind : (c : ℕ) (xs : Place) → (xs ≡ [] → ⊥) → list_any has_zero (onto_first c xs) ≡ (c == 0) || list_any has_zero xs
zero_behind c [] k = absurd (k refl)
zero_behind c (x ∷ xs) k = by (c == 0)
  where
    by : (b : Bool) → (b || has_zero x) || list_any has_zero xs ≡ b || (has_zero x || list_any has_zero xs)
    by true = refl
    by false = refl

pub zeros : (t : Text) → list_any has_zero (elements t) ≡ has_zero t
zeros [] = refl
zeros (c ∷ t) = by (c == 47) refl (zeros t)
  where
    by : (b : Bool) → (c == 47) ≡ b → list_any has_zero (elements t) ≡ has_zero t → list_any has_zero (cond b ([] ∷ elements t) (onto_first c (elements t))) ≡ (c == 0) || has_zero t
    by true e h = h ∙ ap (λ d. (d == 0) || has_zero t) (sym (slash_is c e))
    by false e h = zero_behind c (elements t) (some_element t) ∙ ap (λ b. (c == 0) || b) h

-- ---- a name by its tests

left_false : (a b : Bool) → a || b ≡ false → a ≡ false
left_false true b h = absurd (true_not_false h)
left_false false b h = refl

right_false : (a b : Bool) → a || b ≡ false → b ≡ false
right_false true b h = absurd (true_not_false h)
right_false false b h = h

eqb_apart : (a b : ℕ) → (a == b) ≡ false → a ≢ b
eqb_apart a b h e = by (eqb_tells a b)
  where
    by : (((a == b) ≡ true) × (a ≡ b)) ⊎ (((a == b) ≡ false) × (a ≢ b)) → ⊥
    by (inl w) = true_not_false (sym w.0 ∙ h)
    by (inr w) = w.1 e

apart_eqb : (a b : ℕ) → a ≢ b → (a == b) ≡ false
apart_eqb a b h = by (eqb_tells a b)
  where
    by : (((a == b) ≡ true) × (a ≡ b)) ⊎ (((a == b) ≡ false) × (a ≢ b)) → (a == b) ≡ false
    by (inl w) = absurd (h w.1)
    by (inr w) = w.0

plain_each : (n : Text) → has_slash n ≡ false → has_zero n ≡ false → All (λ b. (b ≢ 47) × (b ≢ 0)) n
plain_each [] h k i d l = absurd (omega (arith, l))
plain_each (c ∷ n) h k zero d l = (eqb_apart c 47 (left_false _ _ h), eqb_apart c 0 (left_false _ _ k))
plain_each (c ∷ n) h k (suc i) d l = plain_each n (right_false (c == 47) _ h) (right_false (c == 0) _ k) i d (omega arith)

no_zero_in : (n : Text) → All (λ b. (b ≢ 47) × (b ≢ 0)) n → has_zero n ≡ false
no_zero_in [] h = refl
no_zero_in (c ∷ n) h = rw (apart_eqb c 0 (h 0 0 (omega arith)).1) (no_zero_in n (λ i d l. h (suc i) d (omega arith)))

other_text : (n t : Text) → not (pointwise nat_eq n t) ≡ true → n ≢ t
other_text n t h = differ _ _ (bytes_eq-Decides n t) (not-true _ h)

not_same : (n t : Text) → n ≢ t → not (pointwise nat_eq n t) ≡ true
not_same n t h = by (pointwise nat_eq n t) refl
  where
    by : (b : Bool) → pointwise nat_eq n t ≡ b → not b ≡ true
    by true e = absurd (h ((bytes_eq-Decides n t).0 e))
    by false e = refl

some_bytes : (n : Text) → not (length n == 0) ≡ true → n ≢ []
some_bytes n h e = true_not_false (sym h ∙ ap (λ m. not (length m == 0)) e)

name_is : (n : Text) → IsUtf8 n → has_slash n ≡ false → has_zero n ≡ false → fits n ≡ true → IsName n
name_is n u s z f =
    let three = and_parts _ _ f in
    let two = and_parts _ _ three.0 in
    let one = and_parts _ _ two.0 in
    record {
      text = ∣ u ∣₁;
      fits = record {
        not_empty = some_bytes n one.0;
        short = leb-true (length n) 255 one.1;
        plain = plain_each n s z;
        not_dot = other_text n (codes ".") two.1;
        not_dots = other_text n (codes "..") three.1;
      };
    }

name_fits : (n : Text) → IsName n → fits n ≡ true
name_fits [] h = absurd (h.fits.not_empty refl)
name_fits (c ∷ n) h =
    let short : nat_le (length (c ∷ n)) 255 ≡ true = let k = h.fits.short in grind (arith, nat_tests) in
    let some : not (suc (length n) == 0) ≡ true = ap not (apart_eqb (suc (length n)) 0 (λ e. omega arith)) in
    rw (some, short, not_same (c ∷ n) (codes ".") h.fits.not_dot, not_same (c ∷ n) (codes "..") h.fits.not_dots) refl

-- ---- all elements

are_names : (ns : Place) → All IsUtf8 ns → list_any has_slash ns ≡ false → list_any has_zero ns ≡ false → list_all fits ns ≡ true → IsPlace ns
are_names [] u s z f = All-nil IsName
are_names (n ∷ ns) u s z f =
    let both = and_parts _ _ f in
    All-cons IsName n ns
    (name_is n (All-head IsUtf8 n ns u) (left_false (has_slash n) _ s) (left_false (has_zero n) _ z) both.0)
    (are_names ns (All-tail IsUtf8 n ns u) (right_false (has_slash n) _ s) (right_false (has_zero n) _ z) both.1)

all_fit : (ns : Place) → IsPlace ns → list_all fits ns ≡ true
all_fit [] h = refl
all_fit (n ∷ ns) h = rw (name_fits n (All-head IsName n ns h)) (all_fit ns (All-tail IsName n ns h))

no_zeros : (ns : Place) → IsPlace ns → list_any has_zero ns ≡ false
no_zeros [] h = refl
no_zeros (n ∷ ns) h = rw (no_zero_in n (All-head IsName n ns h).fits.plain) (no_zeros ns (All-tail IsName n ns h))

pub names_are : (t : Text) → (length t == 0) ≡ false → names_of t ≡ elements t
names_are [] h = absurd (true_not_false h)
names_are (c ∷ t) h = refl

pub place_from_tests : (t : Text) → IsUtf8 t → (length t == 0) ≡ false → has_zero t ≡ false → list_all fits (elements t) ≡ true → IsPlace (names_of t)
place_from_tests t u some z f = subst IsPlace (sym (names_are t some)) (are_names (elements t) (utf8_elements t u) (no_slash t) (zeros t ∙ z) f)

pub name_at : (t : Text) (i : ℕ) (n : Text) → (length t == 0) ≡ false → IsPlace (names_of t) → (i < length (elements t)) × (n ≡ get_or (elements t) i n) → IsName n
name_at t i n some h at = subst IsName (sym at.1) (subst IsPlace (names_are t some) h i n at.0)

pub place_fits : (t : Text) → (length t == 0) ≡ false → IsPlace (names_of t) → list_all fits (elements t) ≡ true
place_fits t some h = all_fit (elements t) (subst IsPlace (names_are t some) h)

pub place_has_no_zero : (t : Text) → (length t == 0) ≡ false → IsPlace (names_of t) → has_zero t ≡ false
place_has_no_zero t some h = sym (zeros t) ∙ no_zeros (elements t) (subst IsPlace (names_are t some) h)
