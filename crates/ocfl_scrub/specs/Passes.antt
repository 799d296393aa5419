-- What a pass over the items of a part does, by the walk that met the first of them.
use Rattle.std.specs.Prelude.{◌≡◌, ◌≢◌, ◌^◌, ◌≤◌, ℕ, List, false, Option, Some, None}
use Rattle.ocfl_tree.specs.{Place.{Place}, StorageRoot.{StorageRoot}, Store.{Store}}
use Rattle.ocfl_rules.specs.{Parts.{Part}, Runs.{Limits}}
use Rattle.ocfl_cursor.specs.declared.limits.Limits.{Limits as MadeLimits}
use Rattle.ocfl_report.specs.declared.further.Further.{Further}
use Rattle.ocfl_scrub.specs.declared.stop.ReportStop.TheVariants as halt
use Rattle.ocfl_walk.specs.{Ends.{is_past}, WalkCalls.{GoesDown}, Walks.{Gives}}
use Rattle.ocfl_scrub.specs.{Alike.{IsAlike}, Beginning.{IsShort}, Call.{Call, call_of}}
use Rattle.ocfl_scrub.specs.Keeping.{IsMet, IsReadyIn, LooksAbove, met_in}
use Rattle.ocfl_scrub.specs.Running.{IsPaid, RunEndsWithin, limits_of}
use Rattle.ocfl_scrub.specs.{Starting.{end_of, entry, stand}, Taking.{WritesLines}, Types.{RunStatus}}
use Rattle.ocfl_scrub.specs.{declared.kept.Met.{Met}, declared.running.Pass.{Pass}}
use Rattle.ocfl_scrub.specs.declared.running.RunStatus.TheVariants as status

-- on every store
pub record IsPass (old new : Option (List ℕ)) (limits : MadeLimits) (pass : Pass) : Type 0 where
  pub works : pass.end ≢ status.Worn
  pub short : IsShort pass.last
  pub paid : IsPaid (limits_of limits) pass.spent pass.files
  pub fits : pass.spent ≤ 2 ^ 63
  pub lines : pass.end ≢ status.Stopped halt.Output → WritesLines old new pass.found
  pub spent : pass.end ≡ status.Spent → (p : Place) × (met_in pass.met ≡ Some p)
  pub unspent : pass.end ≢ status.Spent → pass.met ≡ None

-- it was a run's above a place, and a run above its last place may go on with its walk
abbrev pub EndsAt : Call → Part → Option Place → Limits → Pass → Type 0
EndsAt call part from limits pass =
    RunEndsWithin call part from pass.last limits pass.spent pass.files pass.found pass.end × IsReadyIn call.further call.root part pass.last pass.met

-- from s to t a walk went down to where a run above a place begins, and met an item
pub record IsAhead (further : Further) (root : StorageRoot) (part : Part) (from : Option Place) (m : Met) (s t : Store) : Type 0 where
  pub begun : Store
  pub down : GoesDown further root s begun (entry part from)
  pub gives : Gives further root begun t (stand root part from) m.walk (Some m.item)
  pub in_front : is_past (end_of part) m.item.place ≡ false

-- a pass that took nothing ended so, whatever its limits and what was written before
abbrev pub TakesNothing : Further → StorageRoot → Part → Option Place → RunStatus → Store → Store → Type 0
TakesNothing further root part from end s t = (old : Option (List ℕ)) (limits : Limits) → RunEndsWithin (call_of further root s t old old) part from from limits 0 0 false end

-- the item that a pass above a place begins with: the one that is kept, or one to which a walk went
abbrev pub Meets : Further → StorageRoot → Part → Option Place → Option Met → Option Met → Store → Store → Type 0
Meets further root part from (Some kept) met s t = (met ≡ Some kept) × (t ≡ s)
Meets further root part from None (Some m) s t = IsAhead further root part from m s t
Meets further root part from None None s t = TakesNothing further root part from status.Ended s t

-- The item was met. From any store on which a walk could have come to it, the pass ends so after
-- calls alike.
pub record PassesOn (call : Call) (part : Part) (m : Met) (from : Option Place) (limits : Limits) (pass : Pass) : Type 0 where
  pub looks : IsMet call.further call.root part from m → LooksAbove call part m.item.place
  pub ends : (s t : Store) → t.rest ≡ call.before.rest → t.largest ≡ call.before.largest → IsAhead call.further call.root part from m s t
      → (u : Store) × (IsAlike call.before call.after t u × EndsAt (call_of call.further call.root s u call.old call.new) part from limits pass)
