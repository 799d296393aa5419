-- The text of a report: a line is its code, its place and its detail with tabs between them, and a
-- line feed.
use Rattle.std.specs.Prelude.{◌≡◌, ℕ, ◌/◌, ◌%◌, ◌<◌, ◌==◌, ◌||◌, nat_lt, nat_le, List, [], ◌∷◌, ◌++◌, All, Bool, if◌then◌else◌, map, flat_map, codes, slice_index}
use Rattle.std.specs.{List.{join_with_byte}, Str.{IsUtf8}}
use Rattle.ocfl_tree.specs.{Place.{Text, Place}, Name.{IsPlace}}
use Rattle.ocfl_report.specs.{Line.{Line, Item}, declared.code.Code.{Code}}
use Rattle.ocfl_report.specs.declared.code.Code.TheVariants.{Clean, E001, E003, E007, E015, E017, E018, E023, E024, E025, E033, E036, E041, E058, E060, E061, E063, E064, E069, E072, E073, E076, E080, E092, E093, E096, E097, E099, E100, E101, S01, S02, S03, S04, S05, S06, S07, S08, S09}

abbrev pub code_text : Code → Text
code_text Clean = codes "ok"
code_text E001 = codes "E001"
code_text E003 = codes "E003"
code_text E007 = codes "E007"
code_text E015 = codes "E015"
code_text E017 = codes "E017"
code_text E018 = codes "E018"
code_text E023 = codes "E023"
code_text E024 = codes "E024"
code_text E025 = codes "E025"
code_text E033 = codes "E033"
code_text E036 = codes "E036"
code_text E041 = codes "E041"
code_text E058 = codes "E058"
code_text E060 = codes "E060"
code_text E061 = codes "E061"
code_text E063 = codes "E063"
code_text E064 = codes "E064"
code_text E069 = codes "E069"
code_text E072 = codes "E072"
code_text E073 = codes "E073"
code_text E076 = codes "E076"
code_text E080 = codes "E080"
code_text E092 = codes "E092"
code_text E093 = codes "E093"
code_text E096 = codes "E096"
code_text E097 = codes "E097"
code_text E099 = codes "E099"
code_text E100 = codes "E100"
code_text E101 = codes "E101"
code_text S01 = codes "S01"
code_text S02 = codes "S02"
code_text S03 = codes "S03"
code_text S04 = codes "S04"
code_text S05 = codes "S05"
code_text S06 = codes "S06"
code_text S07 = codes "S07"
code_text S08 = codes "S08"
code_text S09 = codes "S09"

-- controls, `%`, and all from 127 on
abbrev pub is_escaped : ℕ → Bool
is_escaped b = nat_lt b 32 || b == 37 || nat_le 127 b

abbrev pub hex_digit : ℕ → ℕ
hex_digit n = slice_index (codes "0123456789ABCDEF") n

-- as it is, or as `%` and two capital hexadecimal digits
abbrev pub escape_byte : ℕ → Text
escape_byte b = if is_escaped b then 37 ∷ hex_digit (b / 16) ∷ hex_digit (b % 16) ∷ [] else b ∷ []

abbrev pub escape : Text → Text
escape t = flat_map escape_byte t

-- the names with `/` between them, and `.` for the root
abbrev pub place_text : Place → Text
place_text [] = codes "."
place_text (n ∷ p) = join_with_byte 47 (map escape (n ∷ p))

abbrev pub line_text : Line → Text
line_text l = code_text l.code ++ 9 ∷ place_text l.place ++ 9 ∷ escape l.detail ++ 10 ∷ []

abbrev pub lines_text : List Line → Text
lines_text ls = flat_map line_text ls

-- the text of all lines of the items, in order
abbrev pub text : List Item → Text
text items = flat_map (λ i. lines_text i.lines) items

-- a line that a report may hold: its place has names, and its detail is bytes
pub record IsLine (l : Line) : Type 0 where
  pub place : IsPlace l.place
  pub detail : All (λ b. b < 256) l.detail

-- the bytes are the text of this line, whose place has names and whose detail is UTF-8
pub record IsLineText (bytes : Text) (l : Line) : Type 0 where
  pub place : IsPlace l.place
  pub detail : IsUtf8 l.detail
  pub is : bytes ≡ line_text l
