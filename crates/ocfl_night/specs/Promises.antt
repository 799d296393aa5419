-- What the steps of a night promise of a state folder, and when.
use Rattle.std.specs.Prelude.{◌≡◌, [], ◌∷◌, ◌++◌, Bool, IsTrue, Ok, false}
use Rattle.ocfl_tree.specs.{Place.{Place, Text}, StorageRoot.{StorageRoot}, Store.{Store, IfTold}}
use Rattle.ocfl_rules.specs.Parts.{Part}
use Rattle.ocfl_item.specs.Judging.{HasShortFiles}
use Rattle.ocfl_scrub.specs.{Running.{place_in}, declared.kept.KeptWalk.{KeptWalk}}
use Rattle.ocfl_state.specs.declared.folder.StateFolder as state
use Rattle.ocfl_state.specs.{Checkpoint.{Checkpoint}, Content.{Closed, Content}, Crash.{LeavesOnly}}
use Rattle.ocfl_night.specs.{Chain.{NoneBefore, part_after}, Ending.{place_or_pause}, Leaving.{branch_at}, Looks.{IsRootOf, Rounds}}
use Rattle.ocfl_night.specs.{Sound.{IsAt, IsSoundAt, IsReady}, Steps.{IsLost, IsWalkAt, closes_whole}}
use Rattle.ocfl_terms.specs.declared.plan.NightEnd.{NightEnd}
use Rattle.ocfl_terms.specs.declared.made.Made.{Made}

-- ---- when

-- over a store that tells, of a root with no file of 2^62 bytes or more
abbrev pub OnShort : Bool → Store → Type 0 → Type 0
OnShort told s Holds = IfTold told s (λ root. HasShortFiles root → Holds)

-- and what is said of that root
abbrev pub OverShort : Bool → Store → (StorageRoot → Type 0) → Type 0
OverShort told s Holds = IfTold told s (λ root. HasShortFiles root → Holds root)

-- the same, if a walk is kept that goes on where the run from a checkpoint begins
abbrev pub IfWalkAt : Bool → Store → Part → Checkpoint → KeptWalk → (StorageRoot → Type 0) → Type 0
IfWalkAt told s part k kept Holds = IfTold told s (λ root. HasShortFiles root → IsWalkAt root part k kept → Holds root)

-- in a folder that is ready at a checkpoint, whatever text was said
abbrev pub IfReadyIn : {F : Type 0} → state.Ghosts F → Rounds → Checkpoint → F → (Text → Type 0) → Type 0
IfReadyIn S rounds k folder Holds = (t : Text) → IsReady S rounds t k folder → Holds t

-- the same of any rounds
abbrev pub IfReady : {F : Type 0} → state.Ghosts F → Checkpoint → F → (Rounds → Text → Type 0) → Type 0
IfReady S k folder Holds = (rounds : Rounds) → IfReadyIn S rounds k folder (Holds rounds)

-- over a storage root of the looks, no item that is left at a checkpoint is before a branch, as far as
-- that is claimed
abbrev pub IsBranchNext : Rounds → Checkpoint → Place → Type 0
IsBranchNext rounds k branch = (root : StorageRoot) × (IsRootOf rounds.known root × NoneBefore k.cursor.further root (part_after rounds.part k.left) (place_in k.cursor.state) branch)

-- so it is of the place at which a slice stopped, if it did
abbrev pub StopsNext : Rounds → Made → Type 0
StopsNext rounds made = (p : Place) → place_or_pause made.end ≡ Ok p → IsBranchNext rounds made.checkpoint (branch_at p)

abbrev pub StopsNextOver : StorageRoot → Part → Made → Type 0
StopsNextOver root part made = (p : Place) → place_or_pause made.end ≡ Ok p → NoneBefore made.checkpoint.cursor.further root (part_after part made.checkpoint.left) (place_in made.checkpoint.cursor.state) (branch_at p)

-- if this checkpoint is there
abbrev pub IfThere : Content → (Checkpoint → Type 0) → Type 0
IfThere c Holds = (k : Checkpoint) → IsAt k c → Holds k

-- the checkpoint that is there says that nothing of its cycle's report was lost or left out
abbrev pub IsUncut : Content → Type 0
IsUncut c = (k : Checkpoint) → IsAt k c → IsTrue (closes_whole k)

-- so it was when a night began, and the night lost and left out nothing more
pub record IsAllThere (c : Content) (end : NightEnd) : Type 0 where
  pub before : IsUncut c
  pub lost : end.lost ≡ false
  pub left : end.left.items ≡ []

-- this report has come to the closed ones
abbrev pub HasCome : Closed → Content → Content → Type 0
HasCome d old new = new.closed ≡ old.closed ++ d ∷ []

-- bytes of a report were lost or changed that is not closed yet
abbrev pub HasLost : Content → Type 0
HasLost c = (k : Checkpoint) × (IsAt k c × IsLost k c)

-- if they were
abbrev pub IfLost : Content → Type 0 → Type 0
IfLost c Holds = (k : Checkpoint) → IsAt k c → IsLost k c → Holds

-- ---- what

-- in a folder that is ready, a crash at any moment leaves what is sound
abbrev pub IsSafeIn : {F : Type 0} → state.Ghosts F → Rounds → Checkpoint → F → F → Type 0
IsSafeIn S rounds k old new = IfReadyIn S rounds k old (λ t. LeavesOnly S.moment S.left_since old new (IsSoundAt rounds t))

-- the same of any rounds
abbrev pub IsSafe : {F : Type 0} → state.Ghosts F → Checkpoint → F → F → Type 0
IsSafe S k old new = (rounds : Rounds) → IsSafeIn S rounds k old new

-- the closed reports are those of before
abbrev pub SameClosed : {F : Type 0} → state.Ghosts F → F → F → Type 0
SameClosed S old new = (S.seen new).closed ≡ (S.seen old).closed
