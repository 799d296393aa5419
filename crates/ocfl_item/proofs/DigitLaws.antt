-- A digest's digits, compared byte by byte.
use Rattle.std.proofs.Common.{◌≡◌, ◌≢◌, ℕ, ◌+◌, ◌/◌, ◌%◌, ◌<◌, ◌≤◌, ◌==◌, Bool, true, false, [], ◌∷◌, length, drop, get_or, slice_index, sym, ◌∙◌, ap, refl, add-one, drop-cons}
use Rattle.std.proofs.{lemmas.List.{drop_all}, Math.Dec.{eqb-suc-zero}}
use Rattle.std.specs.Bool.{Decides}
use Rattle.hex.specs.Hex.{encode_lower, encode_with, lower_digits}
use Rattle.ocfl_tree.specs.Place.{Text, text_eq}
use Rattle.ocfl_tree.proofs.Places.{not_decided, text_eq-Decides}

-- a text behind the two digits of a byte
abbrev behind_digits : ℕ → Text → Text
behind_digits b rest = slice_index lower_digits (b / 16) ∷ slice_index lower_digits (b % 16) ∷ rest

agree : (a b : Bool) (P Q : Type 0) → Decides a P → Decides b Q → (P → Q) → (Q → P) → a ≡ b
agree true true P Q d e f g = refl
agree true false P Q d e f g = sym (e.1 (f (d.0 refl)))
agree false true P Q d e f g = d.1 (g (e.0 refl))
agree false false P Q d e f g = refl

digits_first : (text rest digest : Text) (b : ℕ) → text ≡ behind_digits b rest → text_eq text (encode_lower (b ∷ digest)) ≡ text_eq rest (encode_lower digest)
unfolding encode_with
digits_first text rest digest b is =
    agree _ _ _ _ (text_eq-Decides text (encode_lower (b ∷ digest))) (text_eq-Decides rest (encode_lower digest)) (λ e. let same : behind_digits b rest ≡ behind_digits b (encode_lower digest) = sym is ∙ e in cc)
    (λ e. is ∙ ap (behind_digits b) e)

pub other_digits : (text rest digest : Text) (i b : ℕ) → i < length digest → b ≡ get_or digest i 0 → ((behind : Text) → rest ≢ behind_digits b behind)
    → text_eq text (encode_lower digest) ≡ text_eq rest (encode_lower (drop i digest)) → text_eq text (encode_lower digest) ≡ false
unfolding encode_with
other_digits text rest digest i b l is differ before =
    let next : drop i digest ≡ b ∷ drop (i + 1) digest = rw (is, add-one, drop-cons digest i 0) refl in
    before ∙ ap (λ d. text_eq rest (encode_lower d)) next ∙ not_decided _ _ (text_eq-Decides rest (encode_lower (b ∷ drop (i + 1) digest))) (λ e. differ (encode_lower (drop (i + 1) digest)) e)

pub more_digits : (text rest behind digest : Text) (i b : ℕ) → i < length digest → b ≡ get_or digest i 0 → rest ≡ behind_digits b behind
    → text_eq text (encode_lower digest) ≡ text_eq rest (encode_lower (drop i digest)) → text_eq text (encode_lower digest) ≡ text_eq behind (encode_lower (drop (i + 1) digest))
more_digits text rest behind digest i b l is front before =
    let next : drop i digest ≡ b ∷ drop (i + 1) digest = rw (is, add-one, drop-cons digest i 0) refl in
    before ∙ ap (λ d. text_eq rest (encode_lower d)) next ∙ digits_first rest behind (drop (i + 1) digest) b front

pub all_digits : (text rest digest : Text) (i : ℕ) (none : Bool) → length digest ≤ i → none ≡ (length rest == 0)
    → text_eq text (encode_lower digest) ≡ text_eq rest (encode_lower (drop i digest)) → none ≡ text_eq text (encode_lower digest)
unfolding encode_with
all_digits text rest digest i none l is before = is ∙ by rest ∙ sym (before ∙ ap (λ d. text_eq rest (encode_lower d)) (drop_all i digest l))
  where
    by : (xs : Text) → (length xs == 0) ≡ text_eq xs []
    by [] = refl
    by (x ∷ xs) = eqb-suc-zero (length xs)
