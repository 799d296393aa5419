-- The status of a splitting that made no separators.
use Rattle.std.specs.Prelude.{ℕ, Bool, true, false, if◌then◌else◌, Option, Some, None}
use Rattle.std.specs.IoError.{error_kind}
use Rattle.std.specs.declared.io.{Error.{Error}, ErrorKind.{ErrorKind}}
use Rattle.std.specs.declared.io.ErrorKind.TheVariants.{OutOfMemory}
use Rattle.ocfl_separators.specs.declared.splitting.SplitStop.{SplitStop}
use Rattle.ocfl_separators.specs.declared.splitting.SplitStop.TheVariants as stop
use Rattle.ocfl_terminal.specs.declared.splits.NotSplit.{NotSplit}
use Rattle.ocfl_terminal.specs.declared.splits.NotSplit.TheVariants as unsplit

-- 2 if the report is wrong, 3 if it could not be read
abbrev pub report_status : SplitStop → ℕ
report_status (stop.Line n) = 2
report_status stop.Many = 2
report_status stop.Read = 3
report_status stop.Memory = 3

-- the separators would be too many too, else something failed
abbrev pub unsplit_status : NotSplit → ℕ
unsplit_status (unsplit.Report why) = report_status why
unsplit_status unsplit.TooLong = 2
unsplit_status _ = 3

abbrev pub is_memory : ErrorKind → Bool
is_memory OutOfMemory = true
is_memory _ = false

-- a report that could not be read, by the error if it is known: else the reason is the stop
abbrev pub unread_by : SplitStop → Option Error → NotSplit
unread_by stop.Read (Some error) = if is_memory (error_kind error) then unsplit.Report stop.Memory else unsplit.Unread error
unread_by why error = unsplit.Report why
