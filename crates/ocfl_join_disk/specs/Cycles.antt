-- What is seen of the cycles of parts on a disk, and what came of a joining there.
use Rattle.std.specs.Prelude.{◌≡◌, ◌⊎◌, ◌&&◌, ◌||◌, ℕ, List, [], Bool, true, false, if◌then◌else◌, is_some, Option, Some, None, Result, Ok, Err}
use Rattle.ocfl_tree.specs.Place.{Text, Place}
use Rattle.ocfl_say.specs.Said.{Said}
use Rattle.ocfl_disk.specs.{Names.{Stored}, PowerCut.{DiskState}}
use Rattle.ocfl_joining.specs.{Cycles.{SeenCycles, no_cycles}, Facts.{known_parts}, Missing.{KnownPart}, Saying.{lacking_text, missing_text}, Stops.{IsCallStop, is_missing}}
use Rattle.ocfl_joining.specs.declared.{facts.Facts.{Facts}, joining.{Joined.{Joined}, JoinStop.{JoinStop}}}
use Rattle.ocfl_joining.specs.declared.joining.JoinStop.TheVariants.{Missing, Changed, Part, Output, Unsaid, Memory}
use Rattle.ocfl_join_disk.specs.Shown.{PartFiles, reports_in}

-- of the parts that the separators make, whose checkpoints say these facts, beside what the output was
-- given
abbrev pub cycles_in : List Place → List (Option Facts) → PartFiles → Stored → Said → SeenCycles
cycles_in separators facts parts s said = record {
  separators = separators;
  parts = known_parts parts.folders facts;
  closed = λ cycle part. is_some (parts.folders.found cycle part) && parts.folders.has_said cycle part;
  packed = λ cycle. parts.folders.packed cycle true || parts.folders.packed cycle false;
  path = λ cycle. parts.folders.path cycle false;
  word = parts.folders.word;
  reports = λ cycle. reports_in cycle parts s;
  noted = parts.folders.noted;
  said = said;
  there = true;
}

-- of a disk, if it is there
abbrev pub cycles_on : {D : Type 0} → (D → PartFiles) → (D → DiskState) → List Place → List (Option Facts) → Said → Option D → SeenCycles
cycles_on parts state separators facts said None = no_cycles
cycles_on parts state separators facts said (Some disk) = cycles_in separators facts (parts disk) (state disk).seen said

-- whether the joined report is whole, and none if parts keep the cycle from being joined
abbrev pub EndsAs : Result Joined JoinStop → Option Bool → Type 0
EndsAs (Ok joined) whole = whole ≡ Some joined.whole
EndsAs (Err stop) whole = (whole ≡ None) × (is_missing stop ≡ true)

-- A call failed behind it, or it stopped itself for this reason, which no part was that keeps the cycle
-- from being joined.
abbrev pub StopsAs : Result Joined JoinStop → JoinStop → Type 0
StopsAs (Ok joined) stop = IsCallStop (λ _. ⊥) stop
StopsAs (Err why) stop = IsCallStop (λ _. ⊥) stop ⊎ ((is_missing why ≡ false) × (stop ≡ why))

-- what is said of it, with what is known of the parts and how the path of the joined report is shown
abbrev pub said_of : List (Option KnownPart) → ℕ → Bool → Text → Result Joined JoinStop → Text
said_of parts cycle names path (Ok joined) = if joined.whole then [] else lacking_text cycle parts path
said_of parts cycle names path (Err (Missing found)) = if names then missing_text cycle parts found.items else []
said_of parts cycle names path (Err (Changed found)) = []
said_of parts cycle names path (Err (Part part why)) = []
said_of parts cycle names path (Err (Output why)) = []
said_of parts cycle names path (Err Unsaid) = []
said_of parts cycle names path (Err Memory) = []
