-- Lines that are passed are of right files.
use Rattle.std.proofs.Common.{◌≡◌, ◌≢◌, ℕ, ◌==◌, All, List, [], ◌∷◌, ◌++◌, Bool, true, false, cond, Some, codes, drop, length, map, nat_eq, refl, ap, sym, subst, ◌∙◌, append_assoc, arith}
use Rattle.std.proofs.{lemmas.Bool.{false≢true}, lemmas.Bool.Decides.{Decides-eqb}, lemmas.List.{map-append}, lemmas.List.Elements.{All-head, All-tail}}
use Rattle.std.proofs.lemmas.{List.Splits.{length-slice_split}, Slice.Eq.{ends_is, starts_is}}
use Rattle.std.specs.{Prelude.{◌&&◌, not}, List.{ends_with, onto_first, slice_split, starts_with}}
use Rattle.ocfl_tree.specs.{Name.{IsPlace}, Place.{Place, Text, begins}}
use Rattle.ocfl_tree.proofs.Places.{begins-itself, begins-longer, text_eq-Decides}
use Rattle.ocfl_report.specs.{Line.{Line, is_finding_code}, Text.{IsLineText, code_text, escape, line_text, place_text}}
use Rattle.ocfl_report.specs.declared.code.Code.{Code}
use Rattle.ocfl_report.specs.declared.code.Code.TheVariants.{Clean}
use Rattle.ocfl_report.proofs.{CodeTexts.{code_text_injective, code_text_printable}, Escapes.{unescape}, LineTexts.{IsLine-from_text, no_tab}}
use Rattle.ocfl_report.proofs.{PlaceTexts.{names_of, names_of-place_text, place_text_printable}, Separators.{first_parts}}
use Rattle.ocfl_codes.specs.Kinds.{is_dash, is_file, kind_at}
use Rattle.ocfl_messages.specs.Tally.{is_right}
use Rattle.ocfl_speaking.specs.Sifting.{IsRightIn, beginning, is_passed}

-- ---- a text that is split at its slashes

split_some : (t : Text) → slice_split (λ b. b == 47) t ≢ []
split_some t e = let n = length-slice_split (λ b. b == 47) t in absurd (omega (arith, n, ap length e))

onto_more : (b : ℕ) (ts us : List Text) → ts ≢ [] → onto_first b (ts ++ us) ≡ onto_first b ts ++ us
onto_more b [] us h = absurd (h refl)
onto_more b (t ∷ ts) us h = refl

split_joined : (t u : Text) → slice_split (λ b. b == 47) (t ++ 47 ∷ u) ≡ slice_split (λ b. b == 47) t ++ slice_split (λ b. b == 47) u
split_joined [] u = refl
split_joined (b ∷ t) u = by (b == 47) (split_joined t u)
  where
    S : Text → List Text
    S x = slice_split (λ b. b == 47) x

    by : (r : Bool) → S (t ++ 47 ∷ u) ≡ S t ++ S u → cond r ([] ∷ S (t ++ 47 ∷ u)) (onto_first b (S (t ++ 47 ∷ u))) ≡ cond r ([] ∷ S t) (onto_first b (S t)) ++ S u
    by true e = ap (λ ts. [] ∷ ts) e
    by false e = ap (onto_first b) e ∙ onto_more b (S t) (S u) (split_some t)

nil_right : {A : Type 0} (xs ys : List A) → xs ++ ys ≡ [] → ys ≡ []
nil_right [] ys e = e
nil_right (x ∷ xs) ys e = absurd cc

-- ---- a place whose text begins with that of another one, and a slash

below : (o p : Place) (z : Text) → IsPlace o → IsPlace p → o ≢ [] → place_text p ≡ place_text o ++ 47 ∷ z → begins o p ≡ true
below [] p z h k some e = absurd (some refl)
below (n ∷ o) [] z h k some e =
    let split = ap (slice_split (λ b. b == 47)) e ∙ split_joined (place_text (n ∷ o)) z in
    absurd (by (slice_split (λ b. b == 47) (place_text (n ∷ o))) (split_some (place_text (n ∷ o))) split)
  where
    by : (ts : List Text) → ts ≢ [] → codes "." ∷ [] ≡ ts ++ slice_split (λ b. b == 47) z → ⊥
    by [] none f = none refl
    by (t ∷ ts) none f =
        let rest : ts ++ slice_split (λ b. b == 47) z ≡ [] = cc in
        split_some z (nil_right ts (slice_split (λ b. b == 47) z) rest)
below (n ∷ o) (m ∷ p) z h k some e =
    let q = map unescape (slice_split (λ b. b == 47) z) in
    let text : m ∷ p ≡ (n ∷ o) ++ q =
    sym (names_of-place_text m p k) ∙ ap names_of e ∙ ap (map unescape) (split_joined (place_text (n ∷ o)) z)
    ∙ map-append unescape (slice_split (λ b. b == 47) (place_text (n ∷ o))) (slice_split (λ b. b == 47) z) ∙ ap (λ ns. ns ++ q) (names_of-place_text n o h) in
    subst (λ x. begins (n ∷ o) x ≡ true) (sym text) (begins-longer (n ∷ o) (n ∷ o) q (begins-itself (n ∷ o)))

-- what goes on with a slash before its first tab
longer : (xs r ys s : Text) → All (λ b. b ≢ 9) xs → xs ++ 47 ∷ r ≡ ys ++ 9 ∷ s → (z : Text) × (ys ≡ xs ++ 47 ∷ z)
longer [] r [] s h e = absurd cc
longer [] r (y ∷ ys) s h e = let f : y ≡ 47 = cc in (ys, ap (λ b. b ∷ ys) f)
longer (x ∷ xs) r [] s h e = let f : x ≡ 9 = cc in absurd (All-head (λ b. b ≢ 9) x xs h f)
longer (x ∷ xs) r (y ∷ ys) s h e =
    let f : y ≡ x = cc in
    let g : xs ++ 47 ∷ r ≡ ys ++ 9 ∷ s = cc in
    let m = longer xs r ys s (All-tail (λ b. b ≢ 9) x xs h) g in
    (m.0, (λ i. f i ∷ m.1 i))

-- ---- the line itself

left_true : (a b : Bool) → (a && b) ≡ true → a ≡ true
left_true true b e = refl
left_true false b e = e

right_true : (a b : Bool) → (a && b) ≡ true → b ≡ true
right_true true b e = e
right_true false b e = absurd (false≢true e)

dash_ends : (l : Line) → is_dash l.detail ≡ true → (front : Text) × (line_text l ≡ front ++ codes "\t-\n")
dash_ends l e =
    let detail : l.detail ≡ codes "-" = (text_eq-Decides l.detail (codes "-")).0 e in
    (code_text l.code ++ 9 ∷ place_text l.place, ap (λ d. code_text l.code ++ 9 ∷ place_text l.place ++ 9 ∷ escape d ++ 10 ∷ []) detail ∙ simp append_assoc)

no_dash : (t : Text) (l : Line) → t ≡ line_text l → not (ends_with nat_eq t (codes "\t-\n")) ≡ true → is_dash l.detail ≡ false
no_dash t l e n = by (is_dash l.detail) refl
  where
    by : (b : Bool) → is_dash l.detail ≡ b → b ≡ false
    by false d = refl
    by true d =
        let f = dash_ends l d in
        let ends : ends_with nat_eq t (codes "\t-\n") ≡ true = (ends_is Decides-eqb t (codes "\t-\n") (ends_with nat_eq t (codes "\t-\n")) refl).1 f.0 (e ∙ f.1) in
        absurd (false≢true (ap not (sym ends) ∙ n))

is_right_clean : (l : Line) → l.code ≡ Clean → is_dash l.detail ≡ false → is_right l ≡ true
is_right_clean l e d =
    let clean : (is_file (kind_at Clean l.place) l.detail && not (is_finding_code Clean)) ≡ true = rw d refl in
    subst (λ (c : Code). (is_file (kind_at c l.place) l.detail && not (is_finding_code c)) ≡ true) (sym e) clean

-- what is passed and is the text of a line is that of a right file in the object
pub passed_right : (o : Place) (t : Text) (l : Line) → IsPlace o → o ≢ [] → is_passed (Some o) t ≡ true → IsLineText t l → IsRightIn (Some o) l
passed_right o t l h some e is =
    let starts = left_true (starts_with nat_eq t (beginning (Some o))) (not (ends_with nat_eq t (codes "\t-\n"))) e in
    let begun = (starts_is Decides-eqb t (beginning (Some o)) (starts_with nat_eq t (beginning (Some o))) refl).0 starts in
    let rest = drop (length (beginning (Some o))) t in
    let one : line_text l ≡ code_text l.code ++ 9 ∷ (place_text l.place ++ 9 ∷ (escape l.detail ++ 10 ∷ [])) = simp append_assoc in
    let two : beginning (Some o) ++ rest ≡ codes "ok" ++ 9 ∷ (place_text o ++ 47 ∷ rest) = simp append_assoc in
    let whole = sym one ∙ sym is.is ∙ begun ∙ two in
    let firsts = first_parts 9 (code_text l.code) (code_text Clean) _ _ (no_tab _ (code_text_printable l.code)) (no_tab (code_text Clean) (code_text_printable Clean)) whole in
    let code : l.code ≡ Clean = code_text_injective l.code Clean firsts.0 in
    let goes = longer (place_text o) rest (place_text l.place) (escape l.detail ++ 10 ∷ []) (no_tab _ (place_text_printable o h)) (sym firsts.1) in
    let dash = no_dash t l is.is (right_true (starts_with nat_eq t (beginning (Some o))) (not (ends_with nat_eq t (codes "\t-\n"))) e) in
    record {
      line = IsLine-from_text t l is;
      right = is_right_clean l code dash;
      within = below o l.place goes.0 h is.place some goes.1;
    }
