-- The text of a code determines the code, and is printable.
use Rattle.std.proofs.Common.{◌≡◌, ℕ, ◌<◌, ◌≤◌, List, [], ◌∷◌, true, if◌then◌else◌, bytes_eq, nat_lt, All, get_or, refl, sym, ap, ◌∙◌, ltb-true, arith}
use Rattle.std.specs.List.{list_all}
use Rattle.ocfl_tree.specs.Place.{Text}
use Rattle.ocfl_report.specs.{Text.{code_text}, declared.code.Code.{Code}}
use Rattle.ocfl_report.specs.declared.code.Code.TheVariants.{Clean, E001, E003, E007, E015, E017, E018, E023, E024, E025, E033, E036, E041, E058, E060, E061, E063, E064, E069, E072, E073, E076, E080, E092, E093, E096, E097, E099, E100, E101, S01, S02, S03, S04, S05, S06, S07, S08, S09}
use Rattle.ocfl_report.specs.declared.code.TheConstants.{CODES}
use Rattle.ocfl_report.proofs.Bytes.{All-from_test, IsPrintable, is_printable, IsPrintable-from_test}

-- the code among these that has the text, and `Clean` if none does
abbrev code_among : List Code → Text → Code
code_among [] t = Clean
code_among (c ∷ cs) t = if bytes_eq (code_text c) t then c else code_among cs t

-- all codes but `Clean`
abbrev codes_but_clean : List Code
codes_but_clean =
    E001 ∷ E003 ∷ E007 ∷ E015 ∷ E017 ∷ E018 ∷ E023 ∷ E024 ∷ E025 ∷ E033 ∷ E036 ∷ E041 ∷ E058 ∷ E060 ∷ E061 ∷ E063 ∷ E064 ∷ E069 ∷ E072 ∷ E073 ∷ E076 ∷ E080 ∷ E092 ∷ E093 ∷ E096 ∷ E097 ∷ E099 ∷ E100 ∷ E101
    ∷ S01 ∷ S02 ∷ S03 ∷ S04 ∷ S05 ∷ S06 ∷ S07 ∷ S08 ∷ S09 ∷ []

-- the code that has the text, and `Clean` if none does
abbrev pub code_of : Text → Code
code_of t = code_among codes_but_clean t

-- the text of a code reads back
pub code_of-code_text : (c : Code) → code_of (code_text c) ≡ c
code_of-code_text Clean = refl
code_of-code_text _ = refl

-- codes are equal if their texts are
pub code_text_injective : (c d : Code) → code_text c ≡ code_text d → c ≡ d
code_text_injective c d e = sym (code_of-code_text c) ∙ ap code_of e ∙ code_of-code_text d

-- the text of a code is printable
pub code_text_printable : (c : Code) → All IsPrintable (code_text c)
code_text_printable c = All-from_test IsPrintable is_printable IsPrintable-from_test (code_text c) (passes c)
  where
    passes : (d : Code) → list_all is_printable (code_text d) ≡ true
    passes Clean = refl
    passes _ = refl

-- ---- the table of all codes

-- where a code is in the table
abbrev place_in_table : Code → ℕ
place_in_table Clean = 0
place_in_table E001 = 1
place_in_table E003 = 2
place_in_table E007 = 3
place_in_table E015 = 4
place_in_table E017 = 5
place_in_table E018 = 6
place_in_table E023 = 7
place_in_table E024 = 8
place_in_table E025 = 9
place_in_table E033 = 10
place_in_table E036 = 11
place_in_table E041 = 12
place_in_table E058 = 13
place_in_table E060 = 14
place_in_table E061 = 15
place_in_table E063 = 16
place_in_table E064 = 17
place_in_table E069 = 18
place_in_table E072 = 19
place_in_table E073 = 20
place_in_table E076 = 21
place_in_table E080 = 22
place_in_table E092 = 23
place_in_table E093 = 24
place_in_table E096 = 25
place_in_table E097 = 26
place_in_table E099 = 27
place_in_table E100 = 28
place_in_table E101 = 29
place_in_table S01 = 30
place_in_table S02 = 31
place_in_table S03 = 32
place_in_table S04 = 33
place_in_table S05 = 34
place_in_table S06 = 35
place_in_table S07 = 36
place_in_table S08 = 37
place_in_table S09 = 38

-- it is there
in_table : (c : Code) → get_or CODES (place_in_table c) Clean ≡ c
in_table Clean = refl
in_table _ = refl

within_table : (c : Code) → nat_lt (place_in_table c) 39 ≡ true
within_table Clean = refl
within_table _ = refl

-- a text that no code of the table has is no code's
pub no_code : (t : Text) (n : ℕ) → ((k : ℕ) → k < n → t ≡ code_text (get_or CODES k Clean) → ⊥) → 39 ≤ n → (c : Code) → t ≡ code_text c → ⊥
no_code t n none all c e =
    let within = ltb-true (place_in_table c) 39 (within_table c) in
    none (place_in_table c) (omega arith) (e ∙ ap code_text (sym (in_table c)))
