-- What the calls of a disk do to the content of a state folder.
use Rattle.std.specs.Prelude.{◌≡◌, ℕ, IsTrue, Some}
use Rattle.ocfl_state.specs.Content.{Bytes}
use Rattle.ocfl_state.specs.Crash.{Step, Same, MayPut}
use Rattle.ocfl_disk.specs.Names.{Stored, content_of}
use Rattle.ocfl_disk.specs.PowerCut.{DiskState, Change, Passes}

-- the contents change so
abbrev pub OfContent : Step → Change
OfContent step old new = step (content_of old) (content_of new)

-- no content is changed, but that an empty report may have been made
pub record Still (old new : DiskState) : Type 0 where
  pub passes : Passes (OfContent Same) old new
  pub seen : content_of new.seen ≡ content_of old.seen
  pub closed : new.seen.names.closed ≡ old.seen.names.closed

-- no content is changed, and the report is the same file
pub record Quiet (old new : DiskState) : Type 0 where
  pub passes : Passes (OfContent Same) old new
  pub seen : content_of new.seen ≡ content_of old.seen
  pub report : new.seen.names.report ≡ old.seen.names.report
  pub closed : new.seen.names.closed ≡ old.seen.names.closed
  pub synced : (file : ℕ) → old.seen.names.report ≡ Some file → IsTrue (old.is_synced file) → IsTrue (new.is_synced file)

-- bytes are written beside, and are on the disk
pub record HasBeside (bytes : Bytes) (d : DiskState) : Type 0 where
  pub file : ℕ
  pub is : d.seen.names.beside ≡ Some file
  pub bytes_are : d.seen.bytes file ≡ bytes
  pub synced : IsTrue (d.is_synced file)

-- the checkpoint may be replaced
pub record MayReplace (bytes : Bytes) (old new : DiskState) : Type 0 where
  pub passes : Passes (OfContent (MayPut bytes)) old new
  pub report : new.seen.names.report ≡ old.seen.names.report

-- each content that may be left is one that might have been, after a step
abbrev pub FollowsContent : Step → DiskState → DiskState → Type 0
FollowsContent step old new = (c : Stored) → new.may_leave c → (d : Stored) × old.may_leave d × step (content_of d) (content_of c)
