-- The text of a size: of a budget, or of the most files of a run.
use Rattle.std.specs.Prelude.{◌≡◌, ℕ, ◌*◌, ◌^◌, ◌∷◌, List, [], Option, Some, None, IsSomeAnd, codes, drop, if◌then◌else◌}
use Rattle.std.specs.{Char.{is_ascii_digit}, List.{prefix_len, take_while}}
use Rattle.std.specs.{Str.{str_eq_ignore_ascii_case}, Str.Parse.{IsNumeral, digits_value}}
use Rattle.clap.specs.Words.{Text}
use Rattle.ocfl_cursor.specs.Limits.{IsLimit}

-- the units, and what each multiplies by; the first is that of digits alone
abbrev pub units : List (Text × ℕ)
units = (codes "", 1)
    ∷ (codes "K", 2 ^ 10) ∷ (codes "KiB", 2 ^ 10) ∷ (codes "kB", 10 ^ 3)
    ∷ (codes "M", 2 ^ 20) ∷ (codes "MiB", 2 ^ 20) ∷ (codes "MB", 10 ^ 6)
    ∷ (codes "G", 2 ^ 30) ∷ (codes "GiB", 2 ^ 30) ∷ (codes "GB", 10 ^ 9)
    ∷ (codes "T", 2 ^ 40) ∷ (codes "TiB", 2 ^ 40) ∷ (codes "TB", 10 ^ 12)
    ∷ []

-- what is beside a text in a table, if capitals and small letters are alike
abbrev pub beside : List (Text × ℕ) → Text → Option ℕ
beside [] t = None
beside (row ∷ rows) t = if str_eq_ignore_ascii_case t row.0 then Some row.1 else beside rows t

-- what a unit multiplies by, if the text is one
abbrev pub unit_size : Text → Option ℕ
unit_size = beside units

-- the digits that a text begins with
abbrev pub digits_of : Text → Text
digits_of = take_while is_ascii_digit

-- what comes after them
abbrev pub unit_of : Text → Text
unit_of t = drop (prefix_len is_ascii_digit t) t

-- the text writes this size: decimal digits, at least one, and one of the units after them
pub record IsSizeText (t : Text) (n : ℕ) : Type 0 where
  pub numeral : IsNumeral 10 (digits_of t)
  pub value : IsSomeAnd (unit_size (unit_of t)) (λ size. n ≡ digits_value 10 (digits_of t) * size)
  pub range : IsLimit n
