-- What a night logs of itself, and what it keeps of lines that were not written.
use Rattle.std.specs.Prelude.{◌≡◌, ◌++◌, ◌∷◌, ℕ, List, [], Option, Some, None}
use Rattle.ocfl_tree.specs.Place.{Text}
use Rattle.ocfl_disk.specs.declared.state_file.Reason.{Reason}
use Rattle.ocfl_messages.specs.declared.log.LogRow.{LogRow}
use Rattle.ocfl_journal.specs.{Calls.{LogCall, Showed, Given}, Rows.{IsRowLine}, declared.logging.Journal.{Journal}}

-- what a log was asked for, and why the last line that was not appended was not
pub record Log : Type 0 where
  pub calls : List LogCall
  pub lost : Option Reason

abbrev pub log_of : {L : Type 0} → (L → List LogCall) → Journal L → Log
log_of calls j = record { calls = calls j.log; lost = j.lost }

abbrev pub lost_after : Option Reason → Option Reason → Option Reason
lost_after lost None = lost
lost_after lost (Some why) = Some why

-- a log was asked to append a line
abbrev pub Takes : Text → Log → Log → Type 0
Takes line old new = (why : Option Reason) × (new ≡ record { calls = old.calls ++ Given line why ∷ []; lost = lost_after old.lost why })

-- A row was logged: the log was asked for the time, and to append the row's line of that time.
pub record Logs (row : ℕ → LogRow) (old new : Log) : Type 0 where
  pub time : ℕ
  pub line : Text
  pub why : Option Reason
  pub is : IsRowLine line (row time)
  pub calls : new.calls ≡ old.calls ++ Showed time ∷ Given line why ∷ []
  pub lost : new.lost ≡ lost_after old.lost why

-- rows were logged, one after the other
abbrev pub LogsAll : List (ℕ → LogRow) → Log → Log → Type 0
LogsAll [] old new = new ≡ old
LogsAll (row ∷ rows) old new = (next : Log) × Logs row old next × LogsAll rows next new
