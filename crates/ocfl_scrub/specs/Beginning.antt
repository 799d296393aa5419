-- Where a run begins.
use Rattle.std.specs.Prelude.{◌≡◌, ◌<◌, ◌≤◌, ◌+◌, ◌^◌, Option, length, IfSome}
use Rattle.ocfl_tree.specs.Place.{Place}
use Rattle.ocfl_cursor.specs.{Cursor.{Cursor, IsCursor}, Moves.{at_start}}
use Rattle.ocfl_scrub.specs.Running.{place_in, begun, IsWorn}

-- a place that a cursor can hold has at most 255 names
abbrev pub IsShort : Option Place → Type 0
IsShort last = IfSome last (λ p. length p ≤ 255)

-- a run can be counted, and this is where it begins
pub record Begins (c b : Cursor) (from : Option Place) : Type 0 where
  pub unworn : IsWorn c → ⊥
  pub begun_is : b ≡ at_start (begun c)
  pub from_is : from ≡ place_in c.state
  pub keeps : IsCursor b
  pub room : b.runs + 1 < 2 ^ 64
  pub short : IsShort from
