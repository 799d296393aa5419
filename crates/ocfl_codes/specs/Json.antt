-- The table of codes as JSON (RFC 8259).
use Rattle.std.specs.Prelude.{◌≡◌, List, [], ◌∷◌, ◌++◌, Option, Some, None, codes, map}
use Rattle.serde_json.specs.Data.{Data, Members, array, boolean, null, number, unsigned, string, object, member, no_members}
use Rattle.serde_json.specs.{Read.{read}, View.{items_of}, Written.{compact_text}}
use Rattle.ocfl_tree.specs.Place.{Text}
use Rattle.ocfl_report.specs.{Line.{is_finding_code}, Text.{code_text}, declared.code.Code.{Code}}
use Rattle.ocfl_codes.specs.{Weight.{weight_of}, Kinds.{kind_of}, Meaning.{first_step_of, meaning_of}}
use Rattle.ocfl_codes.specs.Table.{every_code, kind_text}
use Rattle.ocfl_codes.specs.declared.weight.Weight.{Weight}
use Rattle.ocfl_codes.specs.declared.weight.Weight.TheVariants.{Bytes, Object, Record, Position}

-- the bytes are one line: a JSON text without line feeds that reads as this value
pub record IsJsonLine (b : Text) (d : Data) : Type 0 where
  pub text : b ≡ compact_text d ++ 10 ∷ []
  pub reads : read (compact_text d) ≡ Some d

-- what is no finding has none
abbrev pub weight_data : Option Weight → Data
weight_data (Some Bytes) = number (unsigned 1)
weight_data (Some Object) = number (unsigned 2)
weight_data (Some Record) = number (unsigned 3)
weight_data (Some Position) = number (unsigned 4)
weight_data None = null

-- a member that is a text
abbrev pub says : Text → Text → Members → Members
says key text rest = member key (string text) rest

abbrev pub row_data : Code → Data
row_data c = object (says (codes "code") (code_text c) (member (codes "finding") (boolean (is_finding_code c))
    (says (codes "first") (first_step_of c) (says (codes "kind") (kind_text (kind_of c))
    (says (codes "means") (meaning_of c) (member (codes "weight") (weight_data (weight_of c)) no_members))))))

abbrev pub rows_data : List Code → List Data
rows_data cs = map row_data cs

abbrev pub table_data : Data
table_data = array (items_of (rows_data every_code))
