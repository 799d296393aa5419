-- The disk that loses the most that the calls allow: after each call a cut may leave all that was
-- possible before, changed by the call or not, and a sync takes away only what it has to.
use Rattle.std.specs.Prelude.{◌≡◌, ◌⊎◌, ℕ, ◌+◌, ◌≤◌, Bool, true, false, ◌==◌, ◌&&◌, ◌||◌, not, if◌then◌else◌, IsTrue, List, [], ◌∷◌, Some, None, ⊤}
use Rattle.ocfl_state.specs.Content.{Bytes}
use Rattle.ocfl_disk.specs.Names.{Stored, with_named, IsNameless, without_beside, put_over, close_over}
use Rattle.ocfl_disk.specs.PowerCut.{DiskState, After, MayTear, MayMake, MayDrop, MayPutOver, MayCloseOver, IsDisk}
use Rattle.ocfl_disk.specs.Disk.{Calm, Writes, Makes, Drops, PutsOver, ClosesOver}
use Rattle.ocfl_disk.specs.declared.state_file.StateFile.{StateFile}
use Rattle.ocfl_disk.specs.declared.state_file.StateFile.TheVariants.{Folder, Reports, NewCheckpoint, Report}

-- the next moment
abbrev pub next : Stored → (Stored → Type 0) → (ℕ → Bool) → (StateFile → Bool) → DiskState → DiskState
next seen may_leave is_synced has_names d = record {
  seen = seen;
  may_leave = may_leave;
  moment = d.moment + 1;
  left_since = λ t c. ((t ≤ d.moment) × d.left_since t c) ⊎ may_leave c;
  is_synced = is_synced;
  has_names = has_names;
  faults = d.faults;
}

-- one file has these bytes
abbrev pub with_bytes : ℕ → Bytes → Stored → Stored
with_bytes file bytes s = record s { bytes = λ other. if other == file then bytes else s.bytes other }

-- the bytes of all files but this one
abbrev pub unsynced : ℕ → DiskState → ℕ → Bool
unsynced file d other = d.is_synced other && not (other == file)

abbrev pub no_names : StateFile → Bool
no_names _ = false

abbrev pub after_write : ℕ → Bytes → ℕ → ℕ → DiskState → DiskState
after_write file bytes n most d = next (with_bytes file bytes d.seen) (After (MayTear file n most) d.may_leave) (unsynced file d) d.has_names d

abbrev pub after_make : StateFile → ℕ → DiskState → DiskState
after_make name file d = next (record { names = with_named name file d.seen.names; bytes = (with_bytes file [] d.seen).bytes }) (After (MayMake name file d.seen.names) d.may_leave) (unsynced file d) no_names d

abbrev pub after_drop : DiskState → DiskState
after_drop d = next (without_beside d.seen) (After MayDrop d.may_leave) d.is_synced no_names d

abbrev pub after_put : DiskState → DiskState
after_put d = next (put_over d.seen) (After (MayPutOver d.seen.names) d.may_leave) d.is_synced no_names d

abbrev pub after_close : ℕ → Bool → DiskState → DiskState
after_close cycle whole d = next (close_over cycle whole d.seen) (After (MayCloseOver cycle whole d.seen.names) d.may_leave) d.is_synced no_names d

abbrev pub after_sync : ℕ → DiskState → DiskState
after_sync file d = next d.seen (λ c. d.may_leave c × (c.bytes file ≡ d.seen.bytes file)) (λ other. d.is_synced other || (other == file)) d.has_names d

abbrev pub is_that_folder : StateFile → StateFile → Bool
is_that_folder Folder Folder = true
is_that_folder Reports Reports = true
is_that_folder _ _ = false

-- the names that are certain once a folder was synced
abbrev pub with_folder : StateFile → DiskState → StateFile → Bool
with_folder folder d other = d.has_names other || is_that_folder folder other

-- A rename is certain once both folders were synced, and what was put as the checkpoint once its
-- own was.
pub record IsCertain (folder : StateFile) (d : DiskState) (c : Stored) : Type 0 where
  pub before : d.may_leave c
  pub checkpoint : folder ≡ Folder → c.names.checkpoint ≡ d.seen.names.checkpoint
  pub all : IsTrue (with_folder folder d Folder) → IsTrue (with_folder folder d Reports) → c.names ≡ d.seen.names

abbrev pub after_sync_folder : StateFile → DiskState → DiskState
after_sync_folder folder d = next d.seen (IsCertain folder d) d.is_synced (with_folder folder d) d

-- an empty folder, which is on the disk
abbrev pub begun : DiskState
begun = record {
  seen = record { names = record { checkpoint = None; beside = None; report = None; closed = [] }; bytes = λ _. [] };
  may_leave = λ c. c ≡ record { names = record { checkpoint = None; beside = None; report = None; closed = [] }; bytes = λ _. [] };
  moment = 0;
  left_since = λ t c. c ≡ record { names = record { checkpoint = None; beside = None; report = None; closed = [] }; bytes = λ _. [] };
  is_synced = λ _. true;
  has_names = λ _. true;
  faults = 0;
}

-- a file that the disk may write to
abbrev pub IsOwn : ℕ → DiskState → Type 0
IsOwn file d = (d.seen.names.report ≡ Some file) ⊎ (d.seen.names.beside ≡ Some file)

-- What that disk does at each call, and that it is a disk again.
pub record Loses (d : DiskState) : Type 0 where
  pub writes : (file n most : ℕ) (bytes : Bytes) → IsOwn file d → MayTear file n most d.seen (with_bytes file bytes d.seen)
      → Writes file n most d (after_write file bytes n most d) × IsDisk (after_write file bytes n most d)
  pub makes_new : (file : ℕ) → d.seen.names.beside ≡ None → ((c : Stored) → d.may_leave c → IsNameless file c.names)
      → Makes NewCheckpoint file d (after_make NewCheckpoint file d) × IsDisk (after_make NewCheckpoint file d)
  pub makes_report : (file : ℕ) → d.seen.names.report ≡ None → ((c : Stored) → d.may_leave c → IsNameless file c.names)
      → Makes Report file d (after_make Report file d) × IsDisk (after_make Report file d)
  pub drops : Drops d (after_drop d) × IsDisk (after_drop d)
  pub puts : ((file : ℕ) → d.seen.names.beside ≡ Some file → IsTrue (d.is_synced file)) → PutsOver d (after_put d) × IsDisk (after_put d)
  pub closes : (cycle : ℕ) (whole : Bool) → ((file : ℕ) → d.seen.names.report ≡ Some file → IsTrue (d.is_synced file))
      → ClosesOver cycle whole d (after_close cycle whole d) × IsDisk (after_close cycle whole d)
  pub syncs : (file : ℕ) → Calm d (after_sync file d) × IsTrue ((after_sync file d).is_synced file) × IsDisk (after_sync file d)
  pub syncs_folder : (folder : StateFile) → Calm d (after_sync_folder folder d) × IsDisk (after_sync_folder folder d)

-- a call that changes what is on the disk or may be there
pub data DiskCall : Type 0 where
  -- a file, the bytes that it has then, how many of them are as before, and how many it has at most
  write : ℕ → Bytes → ℕ → ℕ → DiskCall
  make_new : ℕ → DiskCall
  make_report : ℕ → DiskCall
  remove : DiskCall
  put : DiskCall
  close : ℕ → Bool → DiskCall
  sync : ℕ → DiskCall
  sync_folder : StateFile → DiskCall

-- no name is that of this file, whatever a cut leaves
abbrev pub IsNew : ℕ → DiskState → Type 0
IsNew file d = (c : Stored) → d.may_leave c → IsNameless file c.names

-- what a state folder keeps to
abbrev pub IsAllowed : DiskCall → DiskState → Type 0
IsAllowed (write file bytes n most) d = IsOwn file d × MayTear file n most d.seen (with_bytes file bytes d.seen)
IsAllowed (make_new file) d = (d.seen.names.beside ≡ None) × IsNew file d
IsAllowed (make_report file) d = (d.seen.names.report ≡ None) × IsNew file d
IsAllowed put d = (file : ℕ) → d.seen.names.beside ≡ Some file → IsTrue (d.is_synced file)
IsAllowed (close cycle whole) d = (file : ℕ) → d.seen.names.report ≡ Some file → IsTrue (d.is_synced file)
IsAllowed remove d = ⊤
IsAllowed (sync file) d = ⊤
IsAllowed (sync_folder _) d = ⊤

abbrev pub after_call : DiskCall → DiskState → DiskState
after_call (write file bytes n most) d = after_write file bytes n most d
after_call (make_new file) d = after_make NewCheckpoint file d
after_call (make_report file) d = after_make Report file d
after_call remove d = after_drop d
after_call put d = after_put d
after_call (close cycle whole) d = after_close cycle whole d
after_call (sync file) d = after_sync file d
after_call (sync_folder which) d = after_sync_folder which d

-- from an empty folder on, the last call first
abbrev pub after_calls : List DiskCall → DiskState
after_calls [] = begun
after_calls (call ∷ calls) = after_call call (after_calls calls)

abbrev pub AreAllowed : List DiskCall → Type 0
AreAllowed [] = ⊤
AreAllowed (call ∷ calls) = AreAllowed calls × IsAllowed call (after_calls calls)
