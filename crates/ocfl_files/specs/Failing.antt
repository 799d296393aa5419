-- Why a step of a night failed: what is said of it, and the exit status.
use Rattle.std.specs.Prelude.{◌≡◌, ◌⊎◌, ℕ, ◌++◌, Some, None, codes, string_bytes}
use Rattle.std.specs.Option.{option_map}
use Rattle.ocfl_tree.specs.Place.{Text}
use Rattle.ocfl_report.specs.Text.{escape}
use Rattle.ocfl_files.specs.declared.failing.Failure.{Failure}

-- the exit status of a command line that cannot be followed
abbrev pub usage_status : ℕ
usage_status = 2

-- that of a command that stopped
abbrev pub stopped_status : ℕ
stopped_status = 3

-- memory was refused: no more is said than this
abbrev pub out_of_memory : Failure
out_of_memory = record { status = stopped_status; text = None }

-- it is so, or there was no memory to make it
abbrev pub OrMemory : (Failure → Type 0) → Failure → Type 0
OrMemory Is f = (f ≡ out_of_memory) ⊎ Is f

-- it has this status and says this line
pub record Says (exit : ℕ) (line : Text) (f : Failure) : Type 0 where
  pub status : f.status ≡ exit
  pub said : option_map string_bytes f.text ≡ Some line

-- the line on a file, with words on it
abbrev pub file_line : Text → Text → Text
file_line path words = escape path ++ (codes ": " ++ (words ++ codes "\n"))

-- the command stopped, which is said in a line on this file: nothing is known of the system's words
abbrev pub StopsOn : Text → Failure → Type 0
StopsOn path f = (words : Text) × Says stopped_status (file_line path words) f
