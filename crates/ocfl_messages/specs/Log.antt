-- The lines of the log, as JSON (RFC 8259).
use Rattle.std.specs.Prelude.{◌≡◌, ℕ, [], ◌∷◌, ◌++◌, Some, codes}
use Rattle.serde_json.specs.Data.{Data, Members, boolean, number, unsigned, string, object, member, no_members}
use Rattle.serde_json.specs.{Read.{read}, Written.{compact_text}}
use Rattle.ocfl_tree.specs.Place.{Text}
use Rattle.ocfl_report.specs.Text.{escape, place_text}
use Rattle.ocfl_messages.specs.declared.log.Stands.{Stands}
use Rattle.ocfl_messages.specs.declared.log.Stands.TheVariants.{Start, After, Ended}
use Rattle.ocfl_messages.specs.declared.log.BeganRow.{BeganRow}
use Rattle.ocfl_messages.specs.{declared.log.SliceRow.{SliceRow}, declared.log.LeftRow.{LeftRow}}
use Rattle.ocfl_messages.specs.declared.log.ClosingRow.{ClosingRow}
use Rattle.ocfl_messages.specs.declared.log.RefusalRow.{RefusalRow}
use Rattle.ocfl_messages.specs.declared.log.NightRow.{NightRow}
use Rattle.ocfl_messages.specs.declared.log.LogRow.{LogRow}
use Rattle.ocfl_messages.specs.declared.log.LogRow.TheVariants.{Began, Slice, Left, Closing, Refusal, Night}

-- the bytes are one line: a JSON text without line feeds that reads as this value
pub record IsJsonLine (b : Text) (d : Data) : Type 0 where
  pub text : b ≡ compact_text d ++ 10 ∷ []
  pub reads : read (compact_text d) ≡ Some d

-- as the text of a cursor says it
abbrev pub stands_text : Stands → Text
stands_text Start = codes "start"
stands_text (After place) = codes "after " ++ place_text place.now
stands_text Ended = codes "ended"

-- a member that is a number
abbrev pub counts : Text → ℕ → Members → Members
counts key n rest = member key (number (unsigned n)) rest

-- a member that is a text
abbrev pub says : Text → Text → Members → Members
says key text rest = member key (string text) rest

-- a night that begins, with the texts of where its cursor stands and of the path of its root
abbrev pub began_with : BeganRow → Text → Text → Data
began_with r stands root = object (counts (codes "bytes") r.bytes (counts (codes "cycle") r.cycle
    (counts (codes "lines") r.lines (counts (codes "night") r.night (counts (codes "part") r.part
    (says (codes "program") r.program.now (says (codes "root") root (says (codes "row") (codes "began")
    (says (codes "stands") stands (counts (codes "time") r.time no_members))))))))))

-- a slice, with the text of where its cursor stands
abbrev pub slice_with : SliceRow → Text → Data
slice_with r stands = object (counts (codes "bytes") r.bytes (counts (codes "cost") r.cost (counts (codes "cycle") r.cycle
    (counts (codes "files") r.files (counts (codes "lines") r.lines (counts (codes "night") r.night
    (says (codes "row") (codes "slice") (counts (codes "run") r.run (counts (codes "seconds") r.seconds
    (counts (codes "spent") r.spent (says (codes "stands") stands (counts (codes "status") r.status
    (counts (codes "time") r.time no_members)))))))))))))

-- a place that is left out, with its text and why
abbrev pub left_with : LeftRow → Text → Text → Data
left_with r place why = object (counts (codes "cycle") r.cycle (counts (codes "night") r.night
    (says (codes "place") place (says (codes "row") (codes "left") (counts (codes "time") r.time
    (says (codes "why") why no_members))))))

-- a closing, with the path of its report, and why nothing was compared
abbrev pub closing_counts : ClosingRow → Members → Members
closing_counts r rest = counts (codes "back") r.back (counts (codes "compared") r.compared
    (counts (codes "compared_whole") r.compared_whole (counts (codes "cycle") r.cycle
    (counts (codes "expected") r.expected (counts (codes "files") r.files
    (counts (codes "findings") r.findings (counts (codes "gone") r.gone (counts (codes "known") r.known
    (counts (codes "left") r.left (counts (codes "lines") r.lines (says (codes "list") r.list.now
    (counts (codes "listed") r.listed rest))))))))))))

abbrev pub closing_changed : ClosingRow → Members → Members
closing_changed r rest = counts (codes "new") r.appeared (counts (codes "night") r.night
    (counts (codes "objects") r.objects (counts (codes "read_bytes") r.read_bytes
    (counts (codes "read_files") r.read_files (counts (codes "repaired") r.repaired rest)))))

abbrev pub closing_named : ClosingRow → Text → Members → Members
closing_named r report rest = says (codes "report") report (says (codes "row") (codes "closing")
    (counts (codes "runs") r.runs (counts (codes "time") r.time rest)))

abbrev pub closing_last : ClosingRow → Text → Members
closing_last r why = counts (codes "unlooked") r.unlooked (member (codes "whole") (boolean r.whole) (says (codes "why") why no_members))

abbrev pub closing_with : ClosingRow → Text → Text → Data
closing_with r report why = object (closing_counts r (closing_changed r (closing_named r report (closing_last r why))))

-- a refusal, with what is said of it
abbrev pub refusal_with : RefusalRow → Text → Data
refusal_with r said = object (counts (codes "night") r.night (says (codes "row") (codes "refusal")
    (says (codes "said") said (counts (codes "status") r.status
    (counts (codes "time") r.time no_members)))))

-- the end of a night, with the digest of its program
abbrev pub night_with : NightRow → Text → Data
night_with r program = object (counts (codes "cost") r.cost (counts (codes "findings") r.findings
    (counts (codes "left") r.left (counts (codes "night") r.night (says (codes "program") program
    (says (codes "row") (codes "night") (counts (codes "runs") r.runs (counts (codes "seconds") r.seconds
    (counts (codes "status") r.status (counts (codes "time") r.time no_members))))))))))

-- the text that a row has: where its cursor stands, its place, its path or what is said, escaped
-- as in reports, or the digest of its program as it is
abbrev pub first_text : LogRow → Text
first_text (Began r) = stands_text r.stands
first_text (Slice r) = stands_text r.stands
first_text (Left r) = place_text r.place.now
first_text (Closing r) = escape r.report.now
first_text (Refusal r) = escape r.said.now
first_text (Night r) = r.program.now

-- the other text that a row has, escaped as in reports: the path of the storage root, or why
abbrev pub other_text : LogRow → Text
other_text (Began r) = escape r.root.now
other_text (Slice r) = []
other_text (Left r) = escape r.why.now
other_text (Closing r) = escape r.why.now
other_text (Refusal r) = []
other_text (Night r) = []

abbrev pub row_with : LogRow → Text → Text → Data
row_with (Began r) text other = began_with r text other
row_with (Slice r) text other = slice_with r text
row_with (Left r) text other = left_with r text other
row_with (Closing r) text other = closing_with r text other
row_with (Refusal r) text other = refusal_with r text
row_with (Night r) text other = night_with r text

abbrev pub row_data : LogRow → Data
row_data row = row_with row (first_text row) (other_text row)
