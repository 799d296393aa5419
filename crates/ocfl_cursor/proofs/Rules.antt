-- A cursor's rule has one proof at most, so what keeps it hidden has it.
use Rattle.std.specs.Coded.{Unit-prop}
use Rattle.std.proofs.Props.{props}
use mathlib.Core.Logic.{∥∥₁_elim}
use Rattle.ocfl_cursor.specs.Cursor.{State, start, behind, ended, Cursor, IsShortPlace, IsCursor}
use Rattle.ocfl_cursor.specs.Moves.{at_start}

IsShortPlace-prop : (s : State) → IsProp (IsShortPlace s)
IsShortPlace-prop start = Unit-prop
IsShortPlace-prop (behind p) = hlevel props
IsShortPlace-prop ended = Unit-prop

IsCursor-prop : (c : Cursor) → IsProp (IsCursor c)
IsCursor-prop c = hlevel (props, IsShortPlace-prop)

pub IsCursor-had : (c : Cursor) → ∥ IsCursor c ∥₁ → IsCursor c
IsCursor-had c h = ∥∥₁_elim h (IsCursor-prop c) (λ p. p)

-- the first item may be the next of any cursor
pub IsCursor-started : (c : Cursor) → IsCursor c → IsCursor (at_start c)
IsCursor-started c h = record { first = h.first; cycle = h.cycle; runs = h.runs; spent = h.spent; files = h.files; place = tt }
