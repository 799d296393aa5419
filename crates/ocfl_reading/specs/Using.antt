-- What is said of a list that cannot be used.
use Rattle.std.specs.Prelude.{◌≡◌, ◌++◌, codes}
use Rattle.ocfl_tree.specs.Place.{Text}
use Rattle.ocfl_report.specs.Text.{escape}
use Rattle.ocfl_files.specs.Failing.{Says, file_line, stopped_status, usage_status}
use Rattle.ocfl_files.specs.declared.failing.Failure.{Failure}

-- the command line cannot be followed, which is said in a line on this file: nothing is known here
-- of the words on it
abbrev pub RefusesOn : Text → Failure → Type 0
RefusesOn path f = (words : Text) × Says usage_status (file_line path words) f

-- why a list cannot be used is said with its path
abbrev pub IsWhy : Text → Text → Type 0
IsWhy path why = (words : Text) × (why ≡ escape path ++ (codes ": " ++ words))

-- which of the objects are missing is not known, for a reason that is said with the path
abbrev pub missing_unknown : Text → Text
missing_unknown why = why ++ codes ": which of its objects are missing is not known\n"

-- the command stopped, and says this of that file
abbrev pub StopsFor : Text → Failure → Type 0
StopsFor path f = (why : Text) × (IsWhy path why × Says stopped_status (missing_unknown why) f)
