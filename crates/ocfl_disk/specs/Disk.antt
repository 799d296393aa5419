-- What each call of a disk does.
use Rattle.std.specs.Prelude.{◌≡◌, ◌≢◌, ◌⊎◌, ℕ, ◌<◌, Bool, false, ◌==◌, ◌&&◌, ◌||◌, not, if◌then◌else◌, IsTrue, List, [], ◌∷◌, Option, None, ⊤}
use Rattle.std.specs.IoError.{error_kind}
use Rattle.std.specs.declared.io.ErrorKind.TheVariants.{OutOfMemory, InvalidInput}
use Rattle.ocfl_disk.specs.Names.{ClosedName, Names, named, with_named, IsNameless, put_over, close_over}
use Rattle.ocfl_disk.specs.PowerCut.{DiskState, Passes, Same, MayTear, MayMake, MayDrop, MayPutOver, MayCloseOver}
use Rattle.ocfl_disk.specs.declared.state_file.{Reason.{Reason}, StateFile.{StateFile}}
use Rattle.ocfl_disk.specs.declared.state_file.StateFile.TheVariants.{Checkpoint, Report}

-- memory ran out, or a call has failed
abbrev pub HasFault : DiskState → DiskState → Reason → Type 0
HasFault old new reason = (error_kind reason.error ≡ OutOfMemory) ⊎ (old.faults < new.faults)

-- what is there or given is refused
abbrev pub IsWrong : Reason → Type 0
IsWrong reason = error_kind reason.error ≡ InvalidInput

-- nothing is changed
pub record Calm (old new : DiskState) : Type 0 where
  pub passes : Passes Same old new
  pub seen : new.seen ≡ old.seen
  pub synced : (file : ℕ) → IsTrue (old.is_synced file) → IsTrue (new.is_synced file)

-- the bytes of one file alone may be changed
pub record Writes (file n most : ℕ) (old new : DiskState) : Type 0 where
  pub passes : Passes (MayTear file n most) old new
  pub names : new.seen.names ≡ old.seen.names
  pub others : (other : ℕ) → other ≢ file → new.seen.bytes other ≡ old.seen.bytes other
  pub synced : (other : ℕ) → other ≢ file → IsTrue (old.is_synced other) → IsTrue (new.is_synced other)

-- an empty file is made under a name that nothing had
pub record Makes (name : StateFile) (file : ℕ) (old new : DiskState) : Type 0 where
  pub passes : Passes (MayMake name file old.seen.names) old new
  pub nameless : IsNameless file old.seen.names
  pub none : named name old.seen.names ≡ None
  pub names : new.seen.names ≡ with_named name file old.seen.names
  pub empty : new.seen.bytes file ≡ []
  pub others : (other : ℕ) → other ≢ file → new.seen.bytes other ≡ old.seen.bytes other
  pub synced : (other : ℕ) → other ≢ file → IsTrue (old.is_synced other) → IsTrue (new.is_synced other)

-- what is written beside may lose its name
pub record Drops (old new : DiskState) : Type 0 where
  pub passes : Passes MayDrop old new
  pub seen : MayDrop old.seen new.seen
  pub synced : (file : ℕ) → IsTrue (old.is_synced file) → IsTrue (new.is_synced file)

-- what is written beside becomes the checkpoint
pub record PutsOver (old new : DiskState) : Type 0 where
  pub passes : Passes (MayPutOver old.seen.names) old new
  pub seen : new.seen ≡ put_over old.seen
  pub synced : (file : ℕ) → IsTrue (old.is_synced file) → IsTrue (new.is_synced file)

-- the report becomes the closed one of a cycle
pub record ClosesOver (cycle : ℕ) (whole : Bool) (old new : DiskState) : Type 0 where
  pub passes : Passes (MayCloseOver cycle whole old.seen.names) old new
  pub seen : new.seen ≡ close_over cycle whole old.seen
  pub synced : (file : ℕ) → IsTrue (old.is_synced file) → IsTrue (new.is_synced file)

-- that file has the name, or nothing has it; of other names than these nothing is said
abbrev pub IsFound : StateFile → Names → Option ℕ → Type 0
IsFound Checkpoint names found = found ≡ names.checkpoint
IsFound Report names found = found ≡ names.report
IsFound _ names found = ⊤

-- one of these closed reports has that name
abbrev pub has_name : ℕ → Bool → List ClosedName → Bool
has_name cycle whole [] = false
has_name cycle whole (name ∷ names) = ((name.cycle == cycle) && (if whole then name.whole else not name.whole)) || has_name cycle whole names
