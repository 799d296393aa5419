-- A state folder in memory whose closings are said, by what is there from the start and the log of the
-- calls on lists of what is gone. After each a power cut may leave the most that the calls allow.
use Rattle.std.specs.Prelude.{◌≡◌, ◌⊎◌, ℕ, ◌<◌, ◌≤◌, ◌==◌, ◌↔◌, IsTrue, List, [], ◌∷◌, Bool, true, false, codes, if◌then◌else◌, Option, Some, None, option_map, string_bytes}
use Rattle.std.specs.List.{find}
use Rattle.ocfl_tree.specs.Place.{Text, Place}
use Rattle.ocfl_state.specs.Checkpoint.{Checkpoint}
use Rattle.ocfl_files.specs.declared.failing.Failure.{Failure}
use Rattle.ocfl_reading.specs.declared.expected.Listed.{Listed}
use Rattle.ocfl_kept.specs.{FilePaths.{list_path, packed_path, report_path}, Keeping.{ClosedReport, IsAsClosed, IsShort}}
use Rattle.ocfl_closed.specs.{Cut.{ClosedState}, Files.{Files}, Losing.{ListCall, list, sync, rename, sync_folder, after_calls}}
use Rattle.ocfl_closing.specs.{Calls.{Room, report_in}, Listing.{places_in}}
use Rattle.ocfl_mem_disk.specs.Paths.{behind_front, bytes_at, has_file}
use Rattle.ocfl_mem_disk.specs.declared.mem_closed_files.MemClosedFiles.{MemClosedFiles}
use Rattle.ocfl_mem_disk.specs.declared.mem_kept.MemKept.{MemKept}
use Rattle.ocfl_mem_disk.specs.declared.mem_list_call.MemListCall.{MemListCall}
use Rattle.ocfl_mem_disk.specs.declared.mem_list_call.MemListCall.TheVariants.{Write, Sync, Put, SyncFolder}

-- ---- calls that fail

-- one that failed was refused memory, or is one more that has failed
abbrev pub IsFault : ℕ → ℕ → Failure → Type 0
IsFault old new failure = ((failure.text ≡ None) × (old ≤ new)) ⊎ (old < new)

-- ---- what is there from the start

abbrev pub is_of : ℕ → MemKept → Bool
is_of cycle k = k.cycle == cycle

abbrev pub checkpoint_by : Option MemKept → Option Checkpoint
checkpoint_by None = None
checkpoint_by (Some k) = k.checkpoint

abbrev pub places_of : Option Listed → Option (List Place)
places_of listed = option_map (λ l. l.places.items) listed

abbrev pub files_of : MemClosedFiles → Files
files_of m = record {
  whole = λ cycle. bytes_at m.files.items (report_path (string_bytes m.path) cycle true);
  incomplete = λ cycle. bytes_at m.files.items (report_path (string_bytes m.path) cycle false);
  packed = λ cycle. has_file m.files.items (packed_path (string_bytes m.path) cycle false);
  kept = λ cycle. option_map (λ k. k.bytes.items) (find (is_of cycle) m.kept.items);
  checkpoint = λ cycle. checkpoint_by (find (is_of cycle) m.kept.items);
  listed = option_map (places_in m.ends) (places_of m.expected);
  lists = λ cycle. bytes_at m.files.items (list_path (string_bytes m.path) cycle);
}

abbrev pub room_of : MemClosedFiles → Text → List (Option Text) → Room
room_of m log noted = record { path = string_bytes m.path; expected = places_of m.expected; ends = m.ends; log = Some log; noted = noted }

-- the report has these bytes, or none is there
abbrev pub IsReportOf : Option ClosedReport → Option Text → Type 0
IsReportOf seen bytes = option_map (λ r. r.bytes) seen ≡ bytes

-- whether the report of a cycle is as it was closed, in such files
abbrev pub IsAsClosedIn : Files → ℕ → Bool → Type 0
IsAsClosedIn f cycle is = IsShort (report_in f cycle) → IsTrue is ↔ IsAsClosed (f.kept cycle) (report_in f cycle)

-- ---- the calls on lists

abbrev pub call_of : MemListCall → ListCall
call_of (Write bytes) = list bytes.items
call_of Sync = sync
call_of (Put cycle) = rename cycle
call_of SyncFolder = sync_folder

-- these calls with the last one first, after others, by a log with the first one first
abbrev pub calls_onto : List ListCall → List MemListCall → List ListCall
calls_onto calls [] = calls
calls_onto calls (call ∷ log) = calls_onto (call_of call ∷ calls) log

abbrev pub closed_after : Files → List MemListCall → ClosedState
closed_after files log = after_calls files (calls_onto [] log)

abbrev pub state_of : MemClosedFiles → List MemListCall → ClosedState
state_of m log = closed_after (files_of m) log

-- the list of a cycle after such calls, by the bytes of the list that was made last before them, and by
-- that of the cycle
abbrev pub list_from : ℕ → Text → Option Text → List MemListCall → Option Text
list_from cycle beside found [] = found
list_from cycle beside found (Write bytes ∷ log) = list_from cycle bytes.items found log
list_from cycle beside found (Sync ∷ log) = list_from cycle beside found log
list_from cycle beside found (Put number ∷ log) = list_from cycle beside (if number == cycle then Some beside else found) log
list_from cycle beside found (SyncFolder ∷ log) = list_from cycle beside found log

-- ---- the paths of lists

abbrev pub gone_in : Option Text → Option Text
gone_in None = None
gone_in (Some name) = behind_front (codes "/reports/gone-") name

-- what is behind the front of the path of such a list in a state folder
abbrev pub gone_digits : Text → Text → Option Text
gone_digits state path = gone_in (behind_front state path)
