-- One place, looked up by itself: the way down to it, and what is met there.
use Rattle.std.specs.Prelude.{◌≡◌, ◌≢◌, ℕ, List, [], Option, Some, Result, MatchResult, AllPairs}
use Rattle.ocfl_tree.specs.Ascending.{IsAmong}
use Rattle.ocfl_tree.specs.{Place.{Place}, StorageRoot.{StorageRoot}, Store.{Store}}
use Rattle.ocfl_report.specs.declared.further.Further.{Further}
use Rattle.ocfl_report.specs.declared.further.Further.TheVariants.{Nothing, Inventories}
use Rattle.ocfl_rules.specs.{Trail.{heads_of, inventory_of}, Zone.{zone}}
use Rattle.ocfl_tree.specs.declared.store.Opening.{Opening}
use Rattle.std.specs.List.{AllByRecursion}
use Rattle.ocfl_item.specs.{Auditing.{LieIn}, Looking.{IsFront, LiesUpTo, failures_by}, Meeting.{IsItemAt}}
use Rattle.ocfl_item.specs.{declared.fault.Fault.{Fault}, declared.pending.Pending.{Pending}}
use Rattle.ocfl_item.specs.declared.fault.Fault.TheVariants as fault
use Rattle.ocfl_walk.specs.{Internal.Entering.{Calls, NamesFailed}, WalkCalls.{AreAllListed}}

-- nothing was opened or, where inventories of versions are checked, no object's inventory
abbrev pub OpensNoHead : Further → StorageRoot → List Opening → Type 0
OpensNoHead Nothing root trail = trail ≡ []
OpensNoHead Inventories root trail = AllByRecursion (λ o. inventory_of (zone root o.place) ≡ []) trail

-- from s to t the first directories of a way were listed, in order, and metadata was read, near
-- these and each file once, of inventories the first of those that may be; if none may be, no
-- object's head was read
pub record Finds (further : Further) (root : StorageRoot) (s t : Store) (way may : List Place) (failures : ℕ) : Type 0 where
  pub calls : Calls further root s t failures
  pub once : AllPairs (λ a b. a.place ≢ b.place) calls.trail
  pub closed : may ≡ [] → OpensNoHead further root calls.trail
  pub listed : IsFront calls.listings way
  pub heads : IsFront (heads_of root calls.trail) may
  pub near : LieIn further root calls.listings calls.trail

-- and each directory of the way that is entered was listed
pub record FindsAll (further : Further) (root : StorageRoot) (s t : Store) (way may : List Place) : Type 0 where
  pub finds : Finds further root s t way may 0
  pub all : AreAllListed root way finds.calls.listings

-- in no directory after one of these places
abbrev pub LiesUpToOne : List Place → Place → Type 0
LiesUpToOne way q = (w : Place) × (IsAmong way w × LiesUpTo (Some w) q)

-- and then there was a fault
pub record FindFails (further : Further) (root : StorageRoot) (s t : Store) (way may : List Place) (why : Fault) : Type 0 where
  pub finds : Finds further root s t way may (failures_by why)
  pub store : NamesFailed further root s t why finds.calls
  pub up_to : (q : Place) → why ≡ fault.Store q → LiesUpToOne way q

-- the item of a place
pub record FindsItem (further : Further) (root : StorageRoot) (s t : Store) (way may : List Place) (p : Place) (r : Result (Option Pending) Fault) : Type 0 where
  pub gives : MatchResult r (λ o. FindsAll further root s t way may × IsItemAt further root p o) (λ why. FindFails further root s t way may why)
