-- What is given on of the words of a command line.
use Rattle.std.specs.Prelude.{◌∷◌, [], List, codes}
use Rattle.ocfl_tree.specs.Place.{Text}
use Rattle.clap.specs.Words.{subcommand_of}
use Rattle.ocfl_arguments.specs.{Asks.{Asks}, Line.{line_app}, declared.task.Asked.{Asked}}
use Rattle.ocfl_terminal.specs.Absolute.{IsAskedAbsolute}

-- the program is named so, whatever its file is called
abbrev pub named : List Text → List Text
named [] = []
named (word ∷ words) = codes "ocfl-scrub" ∷ words

-- what the words ask for, with its paths from `/` on by one folder
abbrev pub IsGiven : List Text → Asked → Type 0
IsGiven words given = (asked : Asked) × Asks (subcommand_of line_app words) asked × ((here : Text) × IsAskedAbsolute here asked given)
