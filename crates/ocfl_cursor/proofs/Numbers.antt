-- The line of a number.
use Rattle.std.proofs.Common.{drop, ◌≡◌, ◌≢◌, ℕ, ◌^◌, ◌<◌, ◌∷◌, ◌++◌, decimal, All, sym, ap, ◌∙◌, append_assoc}
use Rattle.std.proofs.lemmas.List.{append_cancel_left}
use Rattle.ocfl_tree.specs.Place.{Text}
use Rattle.ocfl_report.proofs.Numbers.{decimal_no_line_feed, decimal_determines}
use Rattle.ocfl_report.proofs.Separators.{first_parts}
use Rattle.ocfl_cursor.specs.Cursor.{number_line}

-- the line and what follows it, as the name and what follows that
pub number_line-append : (name : Text) (n : ℕ) (rest : Text) → number_line name n ++ rest ≡ name ++ 32 ∷ (decimal n ++ 10 ∷ rest)
number_line-append name n rest = simp append_assoc

-- what follows the line of a number does not change the number, nor does it depend on it
pub number_line_determines : (name : Text) (m n : ℕ) (r s : Text) → m < 2 ^ 128 → n < 2 ^ 128 → number_line name m ++ r ≡ number_line name n ++ s → (m ≡ n) × (r ≡ s)
number_line_determines name m n r s h k e =
    let whole : name ++ 32 ∷ (decimal m ++ 10 ∷ r) ≡ name ++ 32 ∷ (decimal n ++ 10 ∷ s) = sym (number_line-append name m r) ∙ e ∙ number_line-append name n s in
    let digits : decimal m ++ 10 ∷ r ≡ decimal n ++ 10 ∷ s = ap (drop 1) (append_cancel_left name _ _ whole) in
    let parts = first_parts 10 (decimal m) (decimal n) r s (decimal_no_line_feed m h) (decimal_no_line_feed n k) digits in
    (decimal_determines m n h k parts.0, parts.1)

-- what follows the name in the line of a number
pub after_name_is : (name text after : Text) (n : ℕ) (rest : Text) → text ≡ name ++ after → text ≡ number_line name n ++ rest → after ≡ 32 ∷ (decimal n ++ 10 ∷ rest)
after_name_is name text after n rest e f = append_cancel_left name _ _ (sym e ∙ f ∙ number_line-append name n rest)

-- what follows the space in it
pub after_space_is : (name text after digits : Text) (n : ℕ) (rest : Text) → text ≡ name ++ after → after ≡ 32 ∷ digits → text ≡ number_line name n ++ rest → digits ≡ decimal n ++ 10 ∷ rest
after_space_is name text after digits n rest e g f = ap (drop 1) (sym g ∙ after_name_is name text after n rest e f)

-- what is before the line feed is the number's digits
pub digits_are_decimal : (text digits after : Text) (n : ℕ) (rest : Text) → n < 2 ^ 128 → All (λ b. b ≢ 10) digits → text ≡ digits ++ 10 ∷ after → text ≡ decimal n ++ 10 ∷ rest → digits ≡ decimal n
digits_are_decimal text digits after n rest l h e f = (first_parts 10 digits (decimal n) after rest h (decimal_no_line_feed n l) (sym e ∙ f)).0
