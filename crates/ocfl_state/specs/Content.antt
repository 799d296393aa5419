-- What a state folder holds: a checkpoint, the open cycle's report, and the closed reports.
use Rattle.std.specs.Prelude.{ℕ, List, [], ◌∷◌, ◌++◌, Bool, false, ◌||◌, ◌==◌, Option, Some, None}

abbrev pub Bytes : Type 0
Bytes = List ℕ

-- the report of a cycle that has ended, and whether it is whole
pub record Closed : Type 0 where
  pub cycle : ℕ
  pub whole : Bool
  pub report : Bytes

pub record Content : Type 0 where
  pub checkpoint : Option Bytes
  pub report : Bytes
  -- oldest first
  pub closed : List Closed

abbrev pub empty : Content
empty = record { checkpoint = None; report = []; closed = [] }

abbrev pub with_checkpoint : Bytes → Content → Content
with_checkpoint bytes c = record c { checkpoint = Some bytes }

abbrev pub with_report : Bytes → Content → Content
with_report bytes c = record c { report = bytes }

-- the report became the closed one of that cycle
abbrev pub moved : ℕ → Bool → Content → Content
moved cycle whole c = record c {
  report = [];
  closed = c.closed ++ (record { cycle = cycle; whole = whole; report = c.report }) ∷ [];
}

-- whether a report of that cycle is closed
abbrev pub is_closed : List Closed → ℕ → Bool
is_closed [] cycle = false
is_closed (d ∷ closed) cycle = (d.cycle == cycle) || is_closed closed cycle
