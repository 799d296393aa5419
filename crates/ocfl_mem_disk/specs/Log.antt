-- A disk in memory, as the log of its calls. After each a cut may leave the most that the calls of a
-- disk allow.
use Rattle.std.specs.Prelude.{◌≡◌, ℕ, ◌≤◌, Bool, true, false, ◌==◌, ◌||◌, List, [], ◌∷◌, ◌++◌, Option, Some, None, length, take, get_or, set}
use Rattle.ocfl_state.specs.Content.{Bytes}
use Rattle.ocfl_disk.specs.Names.{Names, closed_names}
use Rattle.ocfl_disk.specs.PowerCut.{DiskState}
use Rattle.ocfl_disk.specs.Losing.{DiskCall, write, make_new, make_report, remove, put, close, sync, sync_folder, after_calls, AreAllowed, IsNew}
use Rattle.ocfl_disk.specs.declared.state_file.StateFile.TheVariants.{Folder, Reports}
use Rattle.ocfl_mem_disk.specs.declared.mem_call.MemCall.{MemCall}
use Rattle.ocfl_mem_disk.specs.declared.mem_call.MemCall.TheVariants.{Append, Cut, MakeNew, MakeReport, Remove, Put, Close, Sync, SyncFolder, SyncReports}

-- the bytes of a file, and whether they are on the disk
pub record Stuff : Type 0 where
  pub bytes : Bytes
  pub synced : Bool

-- what reads show: the names, and the files by their numbers
pub record Shown : Type 0 where
  pub names : Names
  pub files : List Stuff

-- no file yet
abbrev pub blank : Stuff
blank = record { bytes = []; synced = true }

abbrev pub stuff_of : ℕ → Shown → Stuff
stuff_of file s = get_or s.files file blank

-- that name is the file's
abbrev pub is_name_of : ℕ → Option ℕ → Bool
is_name_of file None = false
is_name_of file (Some other) = other == file

-- the file is the report or the next checkpoint
abbrev pub is_own : ℕ → Shown → Bool
is_own file s = is_name_of file s.names.report || is_name_of file s.names.beside

abbrev pub is_free : Option ℕ → Bool
is_free None = true
is_free (Some _) = false

-- what has that name, if anything has, is on the disk
abbrev pub is_ready : Option ℕ → Shown → Bool
is_ready None s = true
is_ready (Some file) s = (stuff_of file s).synced

-- a state folder may make that call
abbrev pub may_make : MemCall → Shown → Bool
may_make (Append file bytes) s = is_own file s
may_make (Cut file most) s = is_own file s
may_make MakeNew s = is_free s.names.beside
may_make MakeReport s = is_free s.names.report
may_make Put s = is_ready s.names.beside s
may_make (Close cycle whole) s = is_ready s.names.report s
may_make Remove s = true
may_make (Sync file) s = true
may_make SyncFolder s = true
may_make SyncReports s = true

abbrev pub with_stuff : ℕ → Bytes → Bool → Shown → Shown
with_stuff file bytes synced s = record s { files = set s.files file (record { bytes = bytes; synced = synced }) }

abbrev pub with_empty : Names → Shown → Shown
with_empty names s = record { names = names; files = s.files ++ (record { bytes = []; synced = false }) ∷ [] }

-- what reads show after a call
abbrev pub shown_after : MemCall → Shown → Shown
shown_after (Append file bytes) s = with_stuff file ((stuff_of file s).bytes ++ bytes.items) false s
shown_after (Cut file most) s = with_stuff file (take most (stuff_of file s).bytes) false s
shown_after MakeNew s = with_empty (record s.names { beside = Some (length s.files) }) s
shown_after MakeReport s = with_empty (record s.names { report = Some (length s.files) }) s
shown_after Put s = record s { names = record s.names { checkpoint = s.names.beside; beside = None } }
shown_after (Close cycle whole) s = record s { names = record s.names { report = None; closed = closed_names cycle whole s.names.report s.names.closed } }
shown_after Remove s = record s { names = record s.names { beside = None } }
shown_after (Sync file) s = with_stuff file (stuff_of file s).bytes true s
shown_after SyncFolder s = s
shown_after SyncReports s = s

-- the call of a disk that it is
abbrev pub call_of : MemCall → Shown → DiskState → DiskCall
call_of (Append file bytes) s d = write file (d.seen.bytes file ++ bytes.items) (length (d.seen.bytes file)) (length (d.seen.bytes file ++ bytes.items))
call_of (Cut file most) s d = write file (take most (d.seen.bytes file)) most 0
call_of MakeNew s d = make_new (length s.files)
call_of MakeReport s d = make_report (length s.files)
call_of Put s d = put
call_of (Close cycle whole) s d = close cycle whole
call_of Remove s d = remove
call_of (Sync file) s d = sync file
call_of SyncFolder s d = sync_folder Folder
call_of SyncReports s d = sync_folder Reports

abbrev pub shown_if : Bool → MemCall → Shown → Shown
shown_if true call s = shown_after call s
shown_if false call s = s

abbrev pub calls_if : Bool → MemCall → Shown → List DiskCall → List DiskCall
calls_if true call s calls = call_of call s (after_calls calls) ∷ calls
calls_if false call s calls = calls

abbrev pub shown_next : MemCall → Shown → Shown
shown_next call s = shown_if (may_make call s) call s

-- an empty folder
abbrev pub nothing : Shown
nothing = record { names = record { checkpoint = None; beside = None; report = None; closed = [] }; files = [] }

-- after these calls, oldest first
abbrev pub shown_from : Shown → List MemCall → Shown
shown_from s [] = s
shown_from s (call ∷ log) = shown_from (shown_next call s) log

-- the calls of a disk, the last one first
abbrev pub calls_from : Shown → List DiskCall → List MemCall → List DiskCall
calls_from s calls [] = calls
calls_from s calls (call ∷ log) = calls_from (shown_next call s) (calls_if (may_make call s) call s calls) log

abbrev pub shown_of : List MemCall → Shown
shown_of log = shown_from nothing log

abbrev pub calls_of : List MemCall → List DiskCall
calls_of log = calls_from nothing [] log

-- the disk after these calls, of which so many have failed
abbrev pub disk_at : List DiskCall → ℕ → DiskState
disk_at calls faults = record (after_calls calls) { faults = faults }

abbrev pub disk_of : List MemCall → ℕ → DiskState
disk_of log faults = disk_at (calls_of log) faults

-- The disk after these calls shows that.
pub record IsShown (s : Shown) (calls : List DiskCall) : Type 0 where
  pub allowed : AreAllowed calls
  pub names : (after_calls calls).seen.names ≡ s.names
  pub bytes : (file : ℕ) → (after_calls calls).seen.bytes file ≡ (stuff_of file s).bytes
  pub synced : (file : ℕ) → (after_calls calls).is_synced file ≡ (stuff_of file s).synced
  pub new : (file : ℕ) → length s.files ≤ file → IsNew file (after_calls calls)
