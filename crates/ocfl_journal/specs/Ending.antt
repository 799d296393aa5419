-- What is said and logged at the end of a night. Times are in seconds since the epoch.
use Rattle.std.specs.Prelude.{◌≡◌, ◌⊎◌, ◌++◌, ◌∷◌, ◌-◌, ◌==◌, ℕ, List, [], Option, Some, None, Result, Ok, Err, if◌then◌else◌, codes, decimal, is_some, length, map, max, nat_lt, string_bytes}
use Rattle.std.specs.{Borrow.{Bor}, Option.{option_map}}
use Rattle.std.specs.Io.KnownBytes.{Appends}
use Rattle.ocfl_tree.specs.Place.{Place, Text}
use Rattle.ocfl_report.specs.Text.{escape, place_text}
use Rattle.ocfl_files.specs.{Failing.{stopped_status}, Reasons.{words_on}, declared.{failing.Failure.{Failure}, reasons.Reason.{Reason}}}
use Rattle.ocfl_kept.specs.declared.names.About.{About}
use Rattle.ocfl_messages.specs.declared.log.NightRow.{NightRow}
use Rattle.ocfl_journal.specs.{Rows.{AreLinesOn}, declared.ending.Ended.{Ended}}

-- of a branch that was left out, and why, if that is known
abbrev pub left_text : Place → Option Text → Text
left_text branch None = codes "left out: " ++ (place_text branch ++ codes "\n")
left_text branch (Some why) = codes "left out: " ++ (place_text branch ++ (codes ": " ++ (why ++ codes "\n")))

-- of one that an earlier night left out of the same cycle
abbrev pub left_earlier_text : Place → Text
left_earlier_text branch = codes "left out earlier: " ++ (place_text branch ++ codes "\n")

-- of a report in a folder, some lines of which are no report lines, or some of which was lost
abbrev pub lost_text : Text → ℕ → Text
lost_text state broken = if nat_lt 0 broken
    then decimal broken ++ (codes " line(s) of the report in " ++ (escape state ++ codes " cannot be read: what they found is not known.\n"))
    else codes "The report in " ++ (escape state ++ codes " does not have what the checkpoint says. It is not whole any more, and will be closed as an incomplete one.\n")

-- a text, if there is one
abbrev pub text_if_any : Option (Bor Text) → List Text
text_if_any None = []
text_if_any (Some said) = said.now ∷ []

-- the branches that earlier nights left out are named by a night that was not refused
abbrev pub left_before : Ended → List Place → List Place
left_before e earlier = if is_some e.closed then earlier else []

-- what is said, in this order: why the night stopped, what earlier nights and what this one left out, and
-- that some of the report was lost
abbrev pub ending_texts : Text → Ended → List Place → List Reason → List Text
ending_texts state e earlier why = text_if_any e.said
    ++ (map left_earlier_text (left_before e earlier)
    ++ (map (λ b. left_text b (words_on why b)) e.left.now
    ++ (if e.is_lost then lost_text state e.totals.now.broken ∷ [] else [])))

-- the row of a night that has ended with this status
abbrev pub ended_row : About → Ended → ℕ → ℕ → NightRow
ended_row a e status now = record {
  time = now;
  night = a.began;
  status = status;
  runs = e.runs;
  cost = e.totals.now.cost;
  seconds = now - a.began;
  findings = e.totals.now.findings;
  left = length e.left.now;
  program = a.program;
}

-- the row of a night that failed before its folder was opened
abbrev pub failed_row : ℕ → ℕ → Bor Text → NightRow
failed_row began now program = record {
  time = now;
  night = began;
  status = stopped_status;
  runs = 0;
  cost = 0;
  seconds = now - began;
  findings = 0;
  left = 0;
  program = program;
}

-- what is logged of a failure: neither of a command line that cannot be followed, nor where memory was refused
abbrev pub said_of : Failure → Option Text
said_of f = if f.status == stopped_status then option_map string_bytes f.text else None

-- the status of a night whose lines were logged, or were not
abbrev pub status_by : {T E : Type 0} → ℕ → Result T E → ℕ
status_by status (Ok _) = status
status_by status (Err why) = max status stopped_status

-- the lines on a night were appended to a log, as far as it is known
abbrev pub IsLogged : NightRow → Option (Bor Text) → Option Text → Option Text → Type 0
IsLogged r said old new = (lines : Text) × AreLinesOn r said lines × Appends old new lines

-- a night has its status, with all of its lines in the log; or 3 at least
abbrev pub EndsLogged : NightRow → Option (Bor Text) → Option Text → Option Text → ℕ → Type 0
EndsLogged r said old new status = ((status ≡ r.status) × IsLogged r said old new) ⊎ (status ≡ max r.status stopped_status)
