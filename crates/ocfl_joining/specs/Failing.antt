-- What comes of a cycle whose joining stopped.
use Rattle.std.specs.Prelude.{ℕ, ◌&&◌, max, Bool, true, false, if◌then◌else◌, Option, Some, None}
use Rattle.ocfl_joining.specs.declared.{failing.{FailedCall.{FailedCall}, JoinEnd.{JoinEnd}}, joining.JoinStop.{JoinStop}}
use Rattle.ocfl_joining.specs.declared.joining.JoinStop.TheVariants.{Missing, Changed, Part, Output, Unsaid, Memory}
use Rattle.ocfl_joining.specs.declared.reports.ReportTrouble.{ReportTrouble}
use Rattle.ocfl_joining.specs.declared.reports.ReportTrouble.TheVariants as trouble

abbrev pub is_failure : ReportTrouble → Bool
is_failure trouble.Failed = true
is_failure trouble.Memory = false

-- a call failed, of which the system has said something
abbrev pub is_failed_call : JoinStop → Bool
is_failed_call (Missing found) = false
is_failed_call (Changed found) = false
is_failed_call (Part part why) = is_failure why
is_failed_call (Output why) = is_failure why
is_failed_call Unsaid = false
is_failed_call Memory = false

-- 3, or a greater one that goes with the call
abbrev pub called_status : Option FailedCall → ℕ
called_status None = 3
called_status (Some call) = max call.status 3

abbrev pub failed_status : JoinStop → Option FailedCall → ℕ
failed_status stop call = if is_failed_call stop then called_status call else 3

-- the greater status, and whether both were said
abbrev pub more_of : JoinEnd → JoinEnd → JoinEnd
more_of first next = record { status = max first.status next.status; said = first.said && next.said }
