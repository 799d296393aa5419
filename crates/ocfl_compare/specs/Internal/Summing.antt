-- What the lines of one place say together.
use Rattle.std.specs.Prelude.{◌≡◌, ◌&&◌, ◌||◌, List, [], ◌++◌, Bool, not, map, if◌then◌else◌, Option, option_map, string_bytes}
use Rattle.std.specs.List.{list_any}
use Rattle.ocfl_tree.specs.Place.{Text, Place}
use Rattle.ocfl_report.specs.{Line.{Line}, declared.code.Code.{Code}}
use Rattle.ocfl_report.specs.declared.line.Line.{Line as MadeLine}
use Rattle.ocfl_codes.specs.Kinds.{is_empty, tells_object, tells_file, hides}
use Rattle.ocfl_compare.specs.Changes.{finding_codes, new_codes, has_code, stops, gone_object, gone_file, when}
use Rattle.ocfl_compare.specs.{Versions.{inventory_changes, note_in}, Seen.{Seen, lines_seen, shown}}
use Rattle.ocfl_compare.specs.declared.side.Side.{Side}
use Rattle.ocfl_compare.specs.declared.change.Change.{Change}
use Rattle.ocfl_compare.specs.declared.change.Change.TheVariants.{Found, Repaired, Missing}
use Rattle.ocfl_compare.specs.Internal.Reading.{IsAt, listed}
use Rattle.ocfl_compare.specs.declared.question.Question.{Question}
use Rattle.ocfl_compare.specs.declared.question.Question.TheVariants.{Changed, Expected}
use Rattle.ocfl_compare.specs.{declared.summary.Summary.{Summary}, declared.reading.Summing.{Summing}}
use Rattle.ocfl_compare.specs.declared.reading.Summing.TheVariants.{More, Whole}

-- what the root inventory is, by a summary
abbrev pub summary_note : Summary → Option Text
summary_note summary = option_map string_bytes summary.note

-- this is what these lines say together
pub record Summarizes (summary : Summary) (ls : List Line) : Type 0 where
  pub absent : summary.absent ≡ is_empty ls
  pub object : summary.object ≡ list_any tells_object ls
  pub stopped : summary.stopped ≡ list_any stops ls
  pub file : summary.file ≡ list_any tells_file ls
  pub hidden : summary.hidden ≡ list_any hides ls
  pub findings : summary.findings.items ≡ finding_codes ls
  pub note : summary_note summary ≡ note_in ls

-- the codes that were found before and are found no more
abbrev pub summary_repaired : Summary → Summary → List Code
summary_repaired before now = if now.absent || now.hidden then [] else new_codes now.findings.items before.findings.items

-- the change of a code, if it was not there before
abbrev pub new_at : Place → List Code → Code → List Seen
new_at p before c = shown p (when (not (has_code before c)) (Found c))

-- the change of a code that is repaired, if it is not there now
abbrev pub repaired_at : Place → List Code → Code → List Seen
repaired_at p now c = shown p (when (not (has_code now c)) (Repaired c))

-- the changes of a place with this summary of its lines before, and this one now
abbrev pub summary_changes : Bool → Bool → Summary → Summary → List Change
summary_changes shut has_lines before now =
    when (not now.object && before.object) (gone_object has_lines)
    ++ (when (now.absent && before.file) (gone_file shut)
    ++ (map Found (new_codes before.findings.items now.findings.items)
    ++ (map Repaired (summary_repaired before now)
    ++ inventory_changes (summary_note before) (summary_note now))))

abbrev pub summary_missing : Summary → Summary → List Change
summary_missing listed now = when (not now.object && listed.object) Missing

abbrev pub summary_answer : Question → Bool → Bool → Summary → Summary → List Change
summary_answer Changed shut has_lines before now = summary_changes shut has_lines before now
summary_answer Expected shut has_lines before now = summary_missing before now

-- the next line was taken, since it has the place; or it was not, since it has another
abbrev pub Sums : Place → Summary → Option MadeLine → Summing → Type 0
Sums p summary next (More after) = IsAt p next × ((own : List Line) → Summarizes summary own → Summarizes after (own ++ listed next))
Sums p summary next (Whole after) = (IsAt p next → ⊥) × (after ≡ summary)

-- it was seen then
abbrev pub seen_by : Question → Side → Summing → Option MadeLine → List Seen
seen_by asked side (More after) next = lines_seen asked side (listed next)
seen_by asked side (Whole after) next = []
