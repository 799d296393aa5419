-- What closings see of a state folder, by the calls that they make there.
use Rattle.std.specs.Prelude.{◌≡◌, ◌⊎◌, ℕ, ◌<◌, ◌≤◌, ◌++◌, List, [], ◌∷◌, true, false, Option, Some, None, Result, Ok, Err, codes, string_bytes}
use Rattle.std.specs.Option.{option_map}
use Rattle.ocfl_tree.specs.Place.{Place, Text}
use Rattle.ocfl_cursor.specs.declared.ends.PartEnds.{PartEnds}
use Rattle.ocfl_files.specs.declared.failing.Failure.{Failure}
use Rattle.ocfl_kept.specs.Keeping.{ClosedReport, seen_report}
use Rattle.ocfl_closed.specs.Files.{Files}
use Rattle.ocfl_accounts.specs.declared.closings.ClosingStop.{ClosingStop}
use Rattle.ocfl_accounts.specs.declared.closings.ClosingStop.TheVariants.{Failed, Memory}

-- ---- paths

-- of the folder of the closed reports, and of the lists of what is gone
abbrev pub reports_path : Text → Text
reports_path state = state ++ codes "/reports"

-- ---- what is there beside the files of closed cycles

-- The path of the state folder. The objects on the list of those that must be there, if there is such a
-- list. The ends of the part that the folder is of, if it is of a part. What the log of the folder has,
-- if that is known. And what was said to have failed, in order: the text of each, or none where memory
-- was refused.
pub record Room : Type 0 where
  pub path : Text
  pub expected : Option (List Place)
  pub ends : Option PartEnds
  pub log : Option Text
  pub noted : List (Option Text)

abbrev pub no_room : Room
no_room = record { path = []; expected = None; ends = None; log = None; noted = [] }

-- another log
abbrev pub with_log : Option Text → Room → Room
with_log log r = record { path = r.path; expected = r.expected; ends = r.ends; log = log; noted = r.noted }

-- one more failure was said
abbrev pub with_note : Failure → Room → Room
with_note failure r = record { path = r.path; expected = r.expected; ends = r.ends; log = r.log; noted = r.noted ++ option_map string_bytes failure.text ∷ [] }

-- the closed report of a cycle: the one that is called whole counts before the other
abbrev pub first_of : Option Text → Option Text → Option ClosedReport
first_of (Some bytes) other = Some (seen_report true bytes)
first_of None (Some bytes) = Some (seen_report false bytes)
first_of None None = None

abbrev pub report_in : Files → ℕ → Option ClosedReport
report_in f cycle = first_of (f.whole cycle) (f.incomplete cycle)

-- ---- calls that fail

-- Calls had failed so often before, and so often after it: one that fails was refused memory, of which
-- nothing more is said, or has failed once more.
abbrev pub HasFault : {T : Type 0} → ℕ → ℕ → Result T Failure → Type 0
HasFault old new (Ok x) = old ≤ new
HasFault old new (Err failure) = ((failure.text ≡ None) × (old ≤ new)) ⊎ (old < new)

-- why a closing is not said, by what is said of that
abbrev pub stop_of : Failure → ClosingStop
stop_of failure = stop_by failure.text
  where
    stop_by : {A : Type 0} → Option A → ClosingStop
    stop_by None = Memory
    stop_by (Some text) = Failed
