-- What the parts of a cursor say.
use Rattle.std.specs.Prelude.{ℕ}
use Rattle.ocfl_report.specs.declared.further.Further.{Further}
use Rattle.ocfl_cursor.specs.Cursor.{State, start, behind, ended, Cursor}
use Rattle.ocfl_cursor.specs.declared.state.State.{State as MadeState}
use Rattle.ocfl_cursor.specs.declared.state.State.TheVariants.{Start, After, Ended}

abbrev pub state_of : MadeState → State
state_of Start = start
state_of (After p) = behind p
state_of Ended = ended

abbrev pub cursor_of : ℕ → ℕ → ℕ → ℕ → Further → MadeState → Cursor
cursor_of cycle runs spent files further state =
    record { cycle = cycle; runs = runs; spent = spent; files = files; further = further; state = state_of state }
