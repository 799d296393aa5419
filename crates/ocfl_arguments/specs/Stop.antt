-- Why a command line is not understood.
use Rattle.std.specs.Prelude.{◌≡◌, ◌≢◌, ◌⊎◌, List, [], ⊤}
use Rattle.clap.specs.Words.{Text, IsAmong, fault_of, kind_of, subcommand_of}
use Rattle.clap.specs.declared.error.Error.{Error}
use Rattle.clap.specs.declared.error.kind.ErrorKind.TheVariants as kind
use Rattle.ocfl_arguments.specs.{Line.{line_app}, Asks.{Asks}, declared.task.Asked.{Asked}}
use Rattle.ocfl_arguments.specs.declared.stop.CommandStop.{CommandStop}
use Rattle.ocfl_arguments.specs.declared.stop.CommandStop.TheVariants.{Usage, Memory}

-- the words ask for no command
abbrev pub AsksNothing : List Text → Type 0
AsksNothing words = (a : Asked) → Asks (subcommand_of line_app words) a → ⊥

-- `clap` finds this fault, or it finds none and the words ask for nothing
abbrev pub IsUsage : List Text → Error → Type 0
IsUsage words e = IsAmong (kind_of e) (fault_of line_app words)
    ⊎ ((kind_of e ≡ kind.ValueValidation) × (fault_of line_app words ≡ []) × AsksNothing words)

-- a usage error names a fault of the words; memory may be refused at any time
abbrev pub StopsRightly : List Text → CommandStop → Type 0
StopsRightly words (Usage e) = IsUsage words e
StopsRightly words Memory = ⊤

-- what is made of an error of `clap`
abbrev pub IsStopOf : Error → CommandStop → Type 0
IsStopOf e (Usage f) = (f ≡ e) × (kind_of e ≢ kind.OutOfMemory)
IsStopOf e Memory = kind_of e ≡ kind.OutOfMemory
