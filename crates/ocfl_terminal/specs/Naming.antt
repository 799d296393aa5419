-- Why a call over a storage root failed, in words; with the name, if one is not UTF-8.
use Rattle.std.specs.Prelude.{◌≡◌, ◌⊎◌, ◌++◌, ◌∷◌, [], ◌/◌, ◌%◌, ◌==◌, ◌&&◌, nat_le, not, ℕ, Bool, true, Option, Some, None, codes, flat_map, if◌then◌else◌}
use Rattle.std.specs.{Fmt.{digit_glyph}, Str.{is_utf8}}
use Rattle.ocfl_tree.specs.Place.{Text}

-- the words on a folder that is not listed since it holds such a name
abbrev pub not_utf_8 : Text
not_utf_8 = codes "it holds a name that is not UTF-8"

abbrev pub is_foreign : Text → Bool
is_foreign name = not (is_utf8 name)

-- printable ASCII, but for the backslash
abbrev pub is_shown : ℕ → Bool
is_shown b = nat_le 32 b && nat_le b 126 && not (b == 92)

-- `\x` and two capital hexadecimal digits
abbrev pub escaped_byte : ℕ → Text
escaped_byte b = codes "\\x" ++ digit_glyph true (b / 16) ∷ digit_glyph true (b % 16) ∷ []

-- a byte as it is, or escaped
abbrev pub shown_byte : ℕ → Text
shown_byte b = if is_shown b then b ∷ [] else escaped_byte b

abbrev pub shown_name : Text → Text
shown_name name = flat_map shown_byte name

-- a name that is not UTF-8, as it is shown
pub record IsForeign (shown : Text) : Type 0 where
  pub name : Text
  pub foreign : is_foreign name ≡ true
  pub is : shown ≡ shown_name name

abbrev pub with_name : Text → Option Text → Text
with_name words None = words
with_name words (Some name) = words ++ codes ": " ++ name

-- the words alone, or with such a name if they are on one
abbrev pub IsWhy : Text → Text → Type 0
IsWhy words text = (text ≡ words) ⊎ ((words ≡ not_utf_8) × (shown : Text) × IsForeign shown × (text ≡ with_name words (Some shown)))
