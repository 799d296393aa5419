-- The laws of what closings see of a state folder in memory.
use Rattle.std.proofs.Common.{◌≡◌, List, [], ◌∷◌, Option, Some, None, option_map, refl}
use Rattle.ocfl_tree.specs.Place.{Text}
use Rattle.ocfl_state.specs.Checkpoint.{Checkpoint}
use Rattle.ocfl_kept.specs.Keeping.{IsRead as IsReadOf}
use Rattle.ocfl_closed.specs.{Cut.{IsClosedDisk}, Files.{Files, AreRead, IsRead}, Losing.{ListCall, list, sync, rename, sync_folder, after_calls}}
use Rattle.ocfl_closed.proofs.Losing.{is_disk}
use Rattle.ocfl_closing.specs.Listing.{places_in}
use Rattle.std.specs.List.{find}
use Rattle.ocfl_mem_disk.specs.declared.mem_closed_files.MemClosedFiles.{MemClosedFiles}
use Rattle.ocfl_mem_disk.specs.declared.mem_kept.MemKept.{MemKept}
use Rattle.ocfl_mem_disk.specs.declared.mem_list_call.MemListCall.{MemListCall}
use Rattle.ocfl_mem_disk.specs.Closings.{calls_onto, checkpoint_by, files_of, is_of, places_of, state_of}

read_so : (bytes : Text) (found : Option Checkpoint) → IsReadOf bytes found → IsRead (Some bytes) found
read_so bytes None h = h
read_so bytes (Some c) h = h

read_by : (o : Option MemKept) → IsRead (option_map (λ k. k.bytes.items) o) (checkpoint_by o)
read_by None = refl
read_by (Some k) = read_so k.bytes.items k.checkpoint k.read

pub are_read : (m : MemClosedFiles) → AreRead (files_of m)
are_read m cycle = read_by (find (is_of cycle) m.kept.items)

pub is_disk_after : (m : MemClosedFiles) (log : List MemListCall) → IsClosedDisk (state_of m log)
is_disk_after m log = is_disk (files_of m) (are_read m) (calls_onto [] log)

same_listed : (files : Files) (calls : List ListCall) → (after_calls files calls).files.listed ≡ files.listed
same_listed files [] = refl
same_listed files (list bytes ∷ calls) = same_listed files calls
same_listed files (sync ∷ calls) = same_listed files calls
same_listed files (rename cycle ∷ calls) = same_listed files calls
same_listed files (sync_folder ∷ calls) = same_listed files calls

pub is_listed_after : (m : MemClosedFiles) (log : List MemListCall) → (state_of m log).files.listed ≡ option_map (places_in m.ends) (places_of m.expected)
is_listed_after m log = same_listed (files_of m) (calls_onto [] log)
