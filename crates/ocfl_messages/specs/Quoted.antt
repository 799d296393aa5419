-- A text as one word of a command line for a shell (POSIX.1-2017, Shell Command Language, 2.2.2
-- Single-Quotes).
use Rattle.std.specs.Prelude.{ℕ, ◌==◌, ◌||◌, [], ◌∷◌, ◌++◌, Bool, flat_map, if◌then◌else◌}
use Rattle.std.specs.{Char.{is_control as is_control_code}, Int.{is_in_range}, List.{list_any}, Str.{chars}}
use Rattle.ocfl_tree.specs.Place.{Text}
use Rattle.ocfl_report.specs.Text.{escape}

-- within single quotes; a quote ends them, stands behind a backslash, and begins them again
abbrev pub quoted_byte : ℕ → Text
quoted_byte b = if b == 39 then 39 ∷ 92 ∷ 39 ∷ 39 ∷ [] else b ∷ []

-- a mark of direction, which turns what stands around it: the property `Bidi_Control` (Unicode 15.0,
-- `PropList.txt`), which are U+061C, U+200E, U+200F, U+202A to U+202E and U+2066 to U+2069
abbrev pub is_direction : ℕ → Bool
is_direction c = c == 0x061C || is_in_range 0x200E 0x200F c || is_in_range 0x202A 0x202E c || is_in_range 0x2066 0x2069 c

-- a character that is obeyed and not shown: a control code, a mark of direction, and U+2028 and
-- U+2029, which end a line and a paragraph (Unicode 15.0, 23.1, 23.2 and 5.8)
abbrev pub is_control : ℕ → Bool
is_control c = is_control_code c || is_direction c || is_in_range 0x2028 0x2029 c

abbrev pub has_control : Text → Bool
has_control t = list_any is_control (chars t)

-- a text with such a character is escaped as in reports, and then has none
abbrev pub quoted : Text → Text
quoted t = 39 ∷ flat_map quoted_byte (if has_control t then escape t else t) ++ 39 ∷ []
