-- Why a state folder is not opened, and that a call on it failed.
use Rattle.std.specs.Prelude.{◌≡◌, ℕ, ◌++◌, Option, Some, None, codes}
use Rattle.ocfl_tree.specs.Place.{Text}
use Rattle.ocfl_report.specs.Text.{escape}
use Rattle.ocfl_disk.specs.declared.{lock.StateStop.{StateStop}, state_file.{Reason.{Reason}, StateFile.{StateFile}}}
use Rattle.ocfl_disk.specs.declared.lock.StateStop.TheVariants as stop
use Rattle.ocfl_disk.specs.declared.state_file.StateFile.TheVariants as file
use Rattle.ocfl_messages.specs.Refusal.{refusal_text}
use Rattle.ocfl_messages.specs.declared.refusal.RefusalMessage.TheVariants as message
use Rattle.std.specs.declared.fs.TryLockError.{TryLockError}
use Rattle.std.specs.declared.fs.TryLockError.TheVariants as lock
use Rattle.ocfl_files.specs.Failing.{Says, StopsOn, stopped_status}
use Rattle.ocfl_files.specs.declared.failing.Failure.{Failure}

-- the exit status if another process holds the lock
abbrev pub held_status : ℕ
held_status = 75

abbrev pub of_parts_text : Text → Text
of_parts_text state = escape state ++ codes " has the folders of parts. Begin in another folder. Nothing was run.\n"

abbrev pub held_text : Text → Text
held_text state = codes "another night still runs in " ++ escape state ++ codes "; nothing was done\n"

abbrev pub joined_now_text : Text → Text
joined_now_text state = codes "another call still writes reports in " ++ escape state ++ codes "; nothing was joined\n"

abbrev pub no_checkpoint_text : Text → Text
no_checkpoint_text state = escape state ++ codes ": its checkpoint cannot be read\n"

-- the folder, or a file of it: the name of a file is not known
abbrev pub ShowsFile : Text → StateFile → Text → Type 0
ShowsFile state file.Folder shown = shown ≡ escape state
ShowsFile state f shown = (name : Text) × (shown ≡ escape state ++ (codes "/" ++ name))

-- The line on a file: how it is shown, words on it, of which nothing is known if they are the system's,
-- and how the line ends.
pub record IsReasonLine (state : Text) (f : StateFile) (ending line : Text) : Type 0 where
  pub shown : Text
  pub words : Text
  pub shows : ShowsFile state f shown
  pub is : line ≡ shown ++ (codes ": " ++ (words ++ ending))

-- the command stopped, which is said in such a line
abbrev pub SaysReason : Text → StateFile → Text → Failure → Type 0
SaysReason state f ending failure = (line : Text) × IsReasonLine state f ending line × Says stopped_status line failure

-- what is said of a call that failed in a night
abbrev pub SaysFailure : Text → Option Reason → Failure → Type 0
SaysFailure state None f = Says stopped_status (escape state ++ codes " failed\n") f
SaysFailure state (Some r) f = SaysReason state r.file (codes "\n") f

-- what is said of a folder that was not opened
abbrev pub SaysStop : Text → Text → StateStop → Failure → Type 0
SaysStop state root stop.NoFolder f = Says stopped_status (refusal_text message.NoCheckpoint root state) f
SaysStop state root stop.NoCheckpoint f = Says stopped_status (refusal_text message.NoCheckpoint root state) f
SaysStop state root stop.Held f = Says held_status (held_text state) f
SaysStop state root (stop.OfScripts _) f = Says stopped_status (refusal_text message.OfScripts root state) f
SaysStop state root (stop.Used _) f = Says stopped_status (refusal_text message.HasReports root state) f
SaysStop state root (stop.Failed r) f = SaysReason state r.file (codes ". Nothing was run.\n") f

-- what is said of a lock that is not held
abbrev pub SaysLock : Text → Text → TryLockError → Failure → Type 0
SaysLock state path lock.WouldBlock f = Says held_status (joined_now_text state) f
SaysLock state path (lock.Error _) f = StopsOn path f

-- the system's words on the last call that failed, with the file below the folder
abbrev pub AreWordsOf : Option Reason → Option Text → Type 0
AreWordsOf None said = said ≡ None
AreWordsOf (Some r) said = (file : Text) × (words : Text) × (said ≡ Some (file ++ (codes ": " ++ words)))
