-- What is seen of parts in memory, whose reports are joined on a disk in memory.
use Rattle.std.specs.Prelude.{ℕ, ◌%◌, ◌==◌, ◌&&◌, List, [], ◌∷◌, codes, Bool, false, if◌then◌else◌, Option, Some, None}
use Rattle.std.specs.List.{find, list_any}
use Rattle.ocfl_tree.specs.Place.{Text}
use Rattle.ocfl_joining.specs.{Folders.{Folders}, Memory.{bytes_of, kept_of}}
use Rattle.ocfl_joining.specs.declared.{facts.FoundReport.{FoundReport}, memory.MemoryReport.{MemoryReport}}
use Rattle.ocfl_join_disk.specs.Shown.{PartFiles}
use Rattle.ocfl_mem_disk.specs.declared.mem_join.MemClosed.{MemClosed}

-- the word on one is the last byte of the number of its cycle, and whether it is whole
abbrev pub word_of : ℕ → Bool → List ℕ
word_of cycle whole = cycle % 256 ∷ (if whole then 1 else 0) ∷ []

abbrev pub closed_of : List MemClosed → ℕ → ℕ → Option MemClosed
closed_of closed cycle part = find (λ one. (one.cycle == cycle) && (one.part == part)) closed

-- of what was closed no checkpoint is kept
abbrev pub found_in : List MemClosed → ℕ → ℕ → Option FoundReport
found_in closed cycle part = by (closed_of closed cycle part)
  where
    by : Option MemClosed → Option FoundReport
    by None = None
    by (Some one) = Some (record { whole = one.whole; kept = None })

abbrev pub has_said_in : List MemClosed → ℕ → ℕ → Bool
has_said_in closed cycle part = by (closed_of closed cycle part)
  where
    by : Option MemClosed → Bool
    by None = false
    by (Some one) = one.has_said

-- those that are compressed are whole
abbrev pub is_packed_in : List ℕ → ℕ → Bool → Bool
is_packed_in packed cycle whole = whole && list_any (λ one. one == cycle) packed

abbrev pub path_of : Bool → Text
path_of whole = if whole then codes "whole" else codes "incomplete"

-- the reports of the parts have the same bytes in each cycle
abbrev pub files_of : List MemoryReport → List MemClosed → List ℕ → List ℕ → Text → PartFiles
files_of parts closed packed opened noted = record {
  folders = record {
    bytes = λ _. bytes_of parts;
    marks = λ _. kept_of parts;
    found = found_in closed;
    has_said = has_said_in closed;
    packed = is_packed_in packed;
    word = λ cycle whole _. word_of cycle whole;
    path = λ _. path_of;
    noted = noted;
  };
  opened = opened;
}
