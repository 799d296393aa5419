-- What the log of a night is asked for.
use Rattle.std.specs.Prelude.{ℕ, Option, Some, None, Result, Ok, Err}
use Rattle.ocfl_tree.specs.Place.{Text}
use Rattle.ocfl_disk.specs.declared.state_file.Reason.{Reason}

-- the time, with what was answered; or to append a line, with why it was not, if it was not
pub data LogCall : Type 0 where
  Showed : ℕ → LogCall
  Given : Text → Option Reason → LogCall

-- why a line was not appended, if it was not
abbrev pub why_not : {T : Type 0} → Result T Reason → Option Reason
why_not (Ok _) = None
why_not (Err why) = Some why
