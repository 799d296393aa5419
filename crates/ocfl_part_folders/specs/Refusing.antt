-- What is said where the folders of parts, or their joined report, are not as a joining needs them.
use Rattle.std.specs.Prelude.{◌≡◌, ◌≢◌, ◌++◌, Option, Some, None, codes, is_some, if◌then◌else◌, string_bytes}
use Rattle.std.specs.{IoError.{error_kind}, Option.{option_map}}
use Rattle.std.specs.declared.io.{Error.{Error}, ErrorKind.TheVariants.{UnexpectedEof}}
use Rattle.ocfl_tree.specs.Place.{Text}
use Rattle.ocfl_report.specs.Text.{escape}
use Rattle.ocfl_cursor.specs.{Refused.{refused_text}, declared.refused.Refused.{Refused}}
use Rattle.ocfl_files.specs.Failing.{OrMemory, Says, StopsOn, stopped_status}
use Rattle.ocfl_files.specs.declared.failing.Failure.{Failure}
use Rattle.ocfl_joining.specs.declared.failing.FailedCall.{FailedCall}
use Rattle.ocfl_joining.specs.declared.reports.ReportTrouble.{ReportTrouble}
use Rattle.ocfl_joining.specs.declared.reports.ReportTrouble.TheVariants.{Failed, Memory}

-- of a checkpoint in the folder of a part that is none
abbrev pub no_checkpoint_text : Text → Refused → Text
no_checkpoint_text folder why = escape folder ++ (codes "/checkpoint: " ++ (refused_text why ++ codes "\n"))

-- of a file in place of a joined report that was made before
abbrev pub other_text : Text → Text
other_text path = escape path ++ codes ": is not the joined report\n"

-- What is said of the file with this path, in place of a joined report: that it is another one, as is
-- one that ended too soon; or on what a call failed, if one did.
abbrev pub SaysUnjoined : Text → Option Error → Failure → Type 0
SaysUnjoined path None f = OrMemory (Says stopped_status (other_text path)) f
SaysUnjoined path (Some e) f =
    (error_kind e ≡ UnexpectedEof → OrMemory (Says stopped_status (other_text path)) f)
    × (error_kind e ≢ UnexpectedEof → OrMemory (StopsOn path) f)

-- of a closed report that is not there any more
abbrev pub gone_text : Text
gone_text = codes "it is gone\n"

-- the command stopped, which is said in some words of the system
abbrev pub SaysWords : Failure → Type 0
SaysWords f = (words : Text) × Says stopped_status (words ++ codes "\n") f

-- a failure of which something is said, or for which memory was refused
abbrev pub trouble_of : Failure → ReportTrouble
trouble_of f = if is_some f.text then Failed else Memory

-- what is kept of it: its status, and the line without its line feed
pub record IsCallOf (f : Failure) (call : FailedCall) : Type 0 where
  pub status_is : call.status ≡ f.status
  pub line_is : (line : Text) → option_map string_bytes f.text ≡ Some (line ++ codes "\n") → string_bytes call.text ≡ line
