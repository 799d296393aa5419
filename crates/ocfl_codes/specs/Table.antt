-- The table of codes as text.
use Rattle.std.specs.Prelude.{List, [], ◌∷◌, ◌++◌, Bool, Option, Some, None, codes, flat_map}
use Rattle.ocfl_tree.specs.Place.{Text, text_eq}
use Rattle.ocfl_report.specs.{Text.{code_text}, declared.code.Code.{Code}}
use Rattle.ocfl_report.specs.declared.code.Code.TheVariants.{Clean, E001, E003, E007, E015, E017, E018, E023, E024, E025, E033, E036, E041, E058, E060, E061, E063, E064, E069, E072, E073, E076, E080, E092, E093, E096, E097, E099, E100, E101, S01, S02, S03, S04, S05, S06, S07, S08, S09}
use Rattle.ocfl_codes.specs.{Weight.{weight_of}, Kinds.{kind_of}, Meaning.{first_step_of, meaning_of}}
use Rattle.ocfl_codes.specs.{declared.weight.Weight.{Weight}, declared.kind.Kind.{Kind}}
use Rattle.ocfl_codes.specs.declared.weight.Weight.TheVariants as weight
use Rattle.ocfl_codes.specs.declared.kind.Kind.TheVariants as kind

abbrev pub every_code : List Code
every_code = Clean ∷ E001 ∷ E003 ∷ E007 ∷ E015 ∷ E017 ∷ E018 ∷ E023 ∷ E024 ∷ E025 ∷ E033 ∷ E036 ∷
    E041 ∷ E058 ∷ E060 ∷ E061 ∷ E063 ∷ E064 ∷ E069 ∷ E072 ∷ E073 ∷ E076 ∷ E080 ∷ E092 ∷ E093 ∷ E096 ∷
    E097 ∷ E099 ∷ E100 ∷ E101 ∷ S01 ∷ S02 ∷ S03 ∷ S04 ∷ S05 ∷ S06 ∷ S07 ∷ S08 ∷ S09 ∷ []

-- the codes are one
abbrev pub has_text_of : Code → Code → Bool
has_text_of c d = text_eq (code_text c) (code_text d)

abbrev pub weight_text : Option Weight → Text
weight_text (Some weight.Bytes) = codes "1"
weight_text (Some weight.Object) = codes "2"
weight_text (Some weight.Record) = codes "3"
weight_text (Some weight.Position) = codes "4"
weight_text None = codes "-"

abbrev pub kind_text : Kind → Text
kind_text kind.Object = codes "object"
kind_text kind.File = codes "file"
kind_text kind.Place = codes "place"
kind_text kind.ObjectOrFile = codes "object or file"

-- the columns of a code, with tabs between them
abbrev pub row_text : Code → Text
row_text c = code_text c ++ 9 ∷ weight_text (weight_of c) ++ 9 ∷ kind_text (kind_of c) ++ 9 ∷ meaning_of c ++ 9 ∷ first_step_of c ++ 10 ∷ []

abbrev pub rows_text : List Code → Text
rows_text cs = flat_map row_text cs

-- what the columns and the weights are
abbrev pub head_text : Text
head_text = codes "# What the codes of report lines mean: code, weight, what its lines are about, what it means, what\n"
    ++ codes "# to do first. The weights:\n"
    ++ codes "# 1  bytes are not those that were taken in, or nobody can say whether they are\n"
    ++ codes "# 2  an object, or the root, that the audit did not look into, or whose inventory has changed\n"
    ++ codes "# 3  what an inventory, a sidecar or a declaration says or lacks; a file that nothing vouches for\n"
    ++ codes "# 4  a file or folder in the wrong place\n"
    ++ codes "# -  no finding\n"

abbrev pub table_text : Text
table_text = head_text ++ rows_text every_code
