-- What is said of the bytes of a report.
use Rattle.std.specs.Prelude.{◌≡◌, ℕ, ◌+◌, ◌<◌, ◌^◌, ◌&&◌, ◌||◌, List, ◌++◌, Bool, true, false, not, Option, if◌then◌else◌, is_none, length, map, max, nat_lt, take, unwrap_or}
use Rattle.std.specs.Borrow.{Bor}
use Rattle.ocfl_tree.specs.Place.{Text}
use Rattle.ocfl_report.specs.{Line.{Line, line_of}, declared.code.Code.{Code}}
use Rattle.ocfl_report.specs.declared.code.Code.TheVariants.{S08}
use Rattle.ocfl_disk.specs.declared.state_file.StateFile.{StateFile}
use Rattle.ocfl_disk.specs.declared.state_file.StateFile.TheVariants.{Report, Whole, Incomplete}
use Rattle.ocfl_files.specs.Reasons.{words_on}
use Rattle.ocfl_files.specs.declared.reasons.Reasons.{Reasons}
use Rattle.ocfl_kept.specs.declared.{names.Names.{Names}, stand.Standing.{Standing}}
use Rattle.ocfl_kept.specs.Standing.{runs_before}
use Rattle.ocfl_messages.specs.{Finding.{Finding}, Gravest.{by_weight}, Night.{night_text, shown_findings}, Tally.{kept_count}}
use Rattle.ocfl_messages.specs.declared.{finding.Finding.{Finding as MadeFinding}, night.Night.{Night}}
use Rattle.ocfl_speaking.specs.Sifting.{AreIn, Given, IsSifted, Taken, findings_in, given_behind}
use Rattle.ocfl_speaking.specs.declared.speaking.Speaker.{Speaker}

-- ---- of which runs and which report it is

-- the numbers of the first and the last run whose findings are said, once all was said up to where the
-- nights stood there; what earlier nights left unsaid may be of any run
abbrev pub last_run : Standing → ℕ
last_run now = max now.runs 1

abbrev pub first_run : Standing → Standing → ℕ
first_run said_to now = if nat_lt (runs_before said_to now) (last_run now) then runs_before said_to now + 1 else 1

-- the file that has the report once the night is over
abbrev pub report_of : Standing → StateFile
report_of now = if not now.has_ended || now.is_closed then Report else if now.is_whole then Whole now.cycle else Incomplete now.cycle

-- no more lines come of any object, once the cycle of a whole root has ended: a part may end within one
abbrev pub is_over : Option ℕ → Standing → Bool
is_over part now = is_none part && now.has_ended

abbrev pub night_of : Names → Standing → Standing → Bor Text → Night
night_of names said_to now report = record {
  root = names.root;
  part = names.part;
  cycle = now.cycle;
  first = first_run said_to now;
  last = last_run now;
  report = report;
}

-- ---- why places could not be read

abbrev pub is_unread : Code → Bool
is_unread S08 = true
is_unread _ = false

-- the line of such a place says why, if that is kept
abbrev pub line_with : Reasons → Line → Line
line_with why l = if is_unread l.code then record { code = l.code; place = l.place; detail = unwrap_or (words_on why.kept.items l.place) l.detail } else l

abbrev pub with_reason : Reasons → Finding → Finding
with_reason why f = record { line = line_with why f.line; object = f.object; files = f.files }

abbrev pub lines_of : List MadeFinding → List Line
lines_of fs = map (λ f. line_of f.line) fs

-- ---- what is said

-- since its last message a speaker was given this, and nothing has failed
pub record IsGiven (s : Speaker) (g : Given) : Type 0 where
  pub sifted : IsSifted s.known.now s.sifting g
  pub well : s.has_failed ≡ false

-- what it found in these lines that is not known
abbrev pub found_by : Speaker → Standing → Given → List Taken → List Finding
found_by s now g lines = findings_in s.known.now (is_over s.names.part now) g lines

-- the message on what was given: on all that was found and is not known, with why places could not be
-- read. Each finding that the message shows is among the lines that were said, unless memory ran out
pub record IsSaid (old new : Speaker) (g : Given) (now : Standing) (why : Reasons) (report : Bor Text) (message : Text) : Type 0 where
  pub lines : List Taken
  pub rest : Text
  pub are : AreIn g lines rest
  pub text : length (by_weight (found_by old now g lines)) < 2 ^ 64
      → message ≡ night_text (night_of old.names old.said_to now report) (map (with_reason why) (found_by old now g lines))
  pub findings : length (by_weight (found_by old now g lines)) < 2 ^ 64
      → new.findings ≡ kept_count (old.findings + length (by_weight (found_by old now g lines)))
  pub said : (n : ℕ) × (map line_of new.said.items ≡ map line_of old.said.items ++ take n (map (λ f. f.line) (shown_findings (found_by old now g lines))))
  pub next : IsGiven new (given_behind g lines rest)
  pub said_to : new.said_to ≡ now

-- the message on whatever it was given, wherever the nights stand, and whatever is kept of why places
-- could not be read
abbrev pub IsSpoken : Speaker → Speaker → Text → Type 0
IsSpoken old new text = (g : Given) → IsGiven old g → (now : Standing) × (why : Reasons) × (report : Bor Text) × IsSaid old new g now why report text

abbrev pub IsMessage : Speaker → Text → Type 0
IsMessage s text = (next : Speaker) × IsSpoken s next text
