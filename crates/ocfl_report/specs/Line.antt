-- What a report consists of.
use Rattle.std.specs.{Prelude.{ℕ, List, Bool, true, false, string_bytes}, List.{list_any}}
use Rattle.ocfl_tree.specs.Place.{Text, Place}
use Rattle.ocfl_report.specs.declared.code.Code.{Code}
use Rattle.ocfl_report.specs.declared.code.Code.TheVariants.{Clean, S07, S09}
use Rattle.ocfl_report.specs.declared.line.Line.{Line as MadeLine}

-- a line of the report, its detail not yet escaped
pub record Line : Type 0 where
  pub code : Code
  pub place : Place
  pub detail : Text

-- what a line of the code says
abbrev pub line_of : MadeLine → Line
line_of l = record { code = l.code; place = l.place; detail = string_bytes l.detail }

-- a place with its lines, and what auditing it costs
pub record Item : Type 0 where
  pub place : Place
  pub lines : List Line
  pub cost : ℕ

-- a finding is a line of any code but `ok` and the notes: on an algorithm that is not computed, and on
-- what a root inventory is
abbrev pub is_finding_code : Code → Bool
is_finding_code Clean = false
is_finding_code S07 = false
is_finding_code S09 = false
is_finding_code _ = true

abbrev pub has_finding : Item → Bool
has_finding i = list_any (λ l. is_finding_code l.code) i.lines

abbrev pub found : List Item → Bool
found items = list_any has_finding items
