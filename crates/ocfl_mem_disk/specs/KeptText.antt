-- What was kept of a closing has one proof at most, so what keeps it has it.
use Rattle.std.specs.Coded.{Unit-prop}
use Rattle.std.proofs.Props.{props}
use Rattle.std.specs.Prelude.{Option, Some, None}
use Rattle.ocfl_tree.specs.Place.{Text}
use Rattle.ocfl_cursor.specs.Cursor.{State, start, behind, ended, Cursor, IsCursor, IsShortPlace}
use Rattle.ocfl_state.specs.Checkpoint.{Checkpoint, IsCheckpointText}
use Rattle.ocfl_kept.specs.Keeping.{IsRead}

IsShortPlace-prop : (s : State) → IsProp (IsShortPlace s)
IsShortPlace-prop start = Unit-prop
IsShortPlace-prop (behind p) = hlevel props
IsShortPlace-prop ended = Unit-prop

IsCursor-prop : (c : Cursor) → IsProp (IsCursor c)
IsCursor-prop c = hlevel (props, IsShortPlace-prop)

IsCheckpointText-prop : (bytes : Text) (c : Checkpoint) → IsProp (IsCheckpointText bytes c)
IsCheckpointText-prop bytes c = hlevel (props, IsCursor-prop)

pub IsRead-prop : (bytes : Text) (found : Option Checkpoint) → IsProp (IsRead bytes found)
IsRead-prop bytes None = hlevel
IsRead-prop bytes (Some c) = IsCheckpointText-prop bytes c
