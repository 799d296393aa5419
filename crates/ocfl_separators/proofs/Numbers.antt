-- What a detail says.
use Rattle.std.proofs.Common.{◌≡◌, ◌≢◌, ℕ, ◌^◌, ◌<◌, ◌≤◌, decimal, Bool, true, false, refl, sym, ap, ◌∙◌, arith}
use Rattle.std.proofs.{lemmas.Bool.{lt-ltb, ltb-true}, lemmas.Fmt.{decimal_is_IsNumeral_wide}}
use Rattle.std.specs.{Prelude.{◌&&◌, nat_lt}, Str.Parse.{digits_value}}
use Rattle.ocfl_tree.specs.Place.{Text, text_eq}
use Rattle.ocfl_tree.proofs.Places.{text_eq-Decides, text_eq-same}
use Rattle.ocfl_report.proofs.Numbers.{wide, decimal_determines}
use Rattle.ocfl_separators.specs.Costs.{is_size}

-- a number below 2^62 is what its digits say
pub is_size_of : (t : Text) (n : ℕ) → t ≡ decimal n → n < 2 ^ 62 → (is_size t ≡ true) × (n ≡ digits_value 10 t)
is_size_of t n e l =
    let value : digits_value 10 t ≡ n = ap (digits_value 10) e ∙ (decimal_is_IsNumeral_wide n (wide n (omega arith))).1 in
    let same : text_eq t (decimal (digits_value 10 t)) ≡ true = ap (λ x. text_eq t (decimal x)) value ∙ ap (λ x. text_eq t x) (sym e) ∙ text_eq-same t in
    let small : nat_lt (digits_value 10 t) (2 ^ 62) ≡ true = lt-ltb (digits_value 10 t) (2 ^ 62) (omega (arith, value)) in
    ((λ i. same i && small i), sym value)

-- and other text says nothing
pub not_size : (t : Text) → ((n : ℕ) → n < 2 ^ 62 → t ≢ decimal n) → is_size t ≡ false
not_size t h = by (text_eq t (decimal (digits_value 10 t))) (nat_lt (digits_value 10 t) (2 ^ 62)) refl refl
  where
    by : (a b : Bool) → text_eq t (decimal (digits_value 10 t)) ≡ a → nat_lt (digits_value 10 t) (2 ^ 62) ≡ b → (a && b) ≡ false
    by false b e f = refl
    by true false e f = refl
    by true true e f = absurd (h (digits_value 10 t) (ltb-true (digits_value 10 t) (2 ^ 62) f) ((text_eq-Decides t (decimal (digits_value 10 t))).0 e))

-- nor does a number that is not below it
pub not_size_large : (t : Text) (n : ℕ) → t ≡ decimal n → 2 ^ 62 ≤ n → n < 2 ^ 128 → is_size t ≡ false
not_size_large t n e h l = not_size t (λ m k f. omega (arith, h, k, decimal_determines m n (omega (arith, k)) l (sym f ∙ e)))
