-- What the checkpoints of parts say of them, and of their closed reports.
use Rattle.std.specs.Prelude.{◌≡◌, ℕ, ◌+◌, ◌-◌, ◌^◌, ◌==◌, ◌&&◌, min, nat_lt, List, [], ◌∷◌, ◌++◌, length, map, slice_get, Bool, true, false, if◌then◌else◌, Option, Some, None}
use Rattle.ocfl_tree.specs.{Place.{Text, Place}, Path.{slashed}}
use Rattle.ocfl_cursor.specs.Cursor.{State, start, behind, ended}
use Rattle.ocfl_cursor.specs.declared.ends.PartEnds.{PartEnds}
use Rattle.ocfl_state.specs.Checkpoint.{Checkpoint}
use Rattle.ocfl_state.specs.declared.checkpoint_parts.RootIdentity.{RootIdentity}
use Rattle.ocfl_state.specs.declared.checkpoint_parts.Phase.{Phase}
use Rattle.ocfl_state.specs.declared.checkpoint_parts.Phase.TheVariants.{Open, Closing}
use Rattle.ocfl_joining.specs.{Folders.{Folders}, Missing.{KnownPart, numbers}}
use Rattle.ocfl_joining.specs.declared.facts.{Facts.{Facts}, FoundReport.{FoundReport}, RunCount.{RunCount}}
use Rattle.ocfl_joining.specs.declared.reports.KeptMark.{KeptMark}
use Rattle.ocfl_joining.specs.declared.reports.KeptMark.TheVariants.{NotKept, Kept, Damaged}

-- ---- the checkpoint of a part

-- which storage root it is of: its path, and the digest of what declares it
abbrev pub root_of : RootIdentity → Text
root_of r = slashed r.path ++ 10 ∷ r.declared

abbrev pub has_ended : State → Bool
has_ended start = false
has_ended (behind p) = false
has_ended ended = true

abbrev pub is_open : Phase → Bool
is_open Open = true
is_open Closing = false

-- its cycle has ended, and the report of that is closed
abbrev pub is_closed : Checkpoint → Bool
is_closed c = has_ended c.cursor.state && is_open c.phase

-- the cycle that was closed last; 0 if none was
abbrev pub last_closed : Checkpoint → ℕ
last_closed c = if is_closed c then c.cursor.cycle else c.cursor.cycle - 1

-- that cycle is known to have read files, so that its report has lines
abbrev pub has_lines : Checkpoint → Bool
has_lines c = is_closed c && nat_lt 0 c.cursor.spent

-- a whole root has no ends
abbrev pub from_of : Option PartEnds → Option Place
from_of None = None
from_of (Some ends) = ends.from

abbrev pub below_of : Option PartEnds → Option Place
below_of None = None
below_of (Some ends) = ends.below

-- what it says
pub record AreFacts (c : Checkpoint) (facts : Facts) : Type 0 where
  pub root_is : facts.root.items ≡ root_of c.root
  pub from_is : facts.from ≡ from_of c.part
  pub below_is : facts.below ≡ below_of c.part
  pub further_is : facts.further ≡ c.cursor.further
  pub last_is : facts.last ≡ last_closed c
  pub lines_are : facts.has_lines ≡ has_lines c

-- ---- all parts

abbrev pub last_by : Option Facts → ℕ
last_by None = 0
last_by (Some facts) = facts.last

-- the last cycle that each part has closed, and 2^64 - 1 if there is no part
abbrev pub last_of_all : List (Option Facts) → ℕ
last_of_all [] = 2 ^ 64 - 1
last_of_all (facts ∷ all) = min (last_by facts) (last_of_all all)

-- what the checkpoint of the part with a number says, from 1
abbrev pub facts_at : List (Option Facts) → ℕ → Option Facts
facts_at all number = at (slice_get all (number - 1))
  where
    at : Option (Option Facts) → Option Facts
    at None = None
    at (Some facts) = facts

-- ---- what was kept when a report was closed: none where nothing was, and none in it where that is
-- no checkpoint any more

-- a report of no bytes had lines when it was closed
abbrev pub is_emptied : Facts → ℕ → ℕ → Bool
is_emptied facts cycle bytes = (bytes == 0) && (facts.has_lines && (facts.last == cycle))

abbrev pub mark_by : Option (Option Checkpoint) → KeptMark
mark_by None = NotKept
mark_by (Some None) = Damaged
mark_by (Some (Some c)) = Kept c.report

-- with what it was closed
abbrev pub mark_of : Bool → Option (Option Checkpoint) → KeptMark
mark_of emptied kept = if emptied then Damaged else mark_by kept

-- the report of a part, if its checkpoint says anything
abbrev pub is_lost : Option Facts → ℕ → ℕ → Bool
is_lost None cycle bytes = false
is_lost (Some facts) cycle bytes = is_emptied facts cycle bytes

-- with what the part with a number closed its report of a cycle, which has so many bytes now
abbrev pub mark_at : List (Option Facts) → ℕ → ℕ → ℕ → Option (Option Checkpoint) → KeptMark
mark_at all number cycle bytes kept = mark_of (is_lost (facts_at all number) cycle bytes) kept

-- the places that were left out of it, as far as they are known
abbrev pub left_in : Option (Option Checkpoint) → List Place
left_in None = []
left_in (Some None) = []
left_in (Some (Some c)) = map (λ l. l.place) c.left

-- how many names the storage root had when its cycle began, if that was kept
abbrev pub names_in : Option (Option Checkpoint) → Option ℕ
names_in None = None
names_in (Some None) = None
names_in (Some (Some c)) = Some c.names.count

-- how many runs it had, if that was kept
abbrev pub runs_in : Option (Option Checkpoint) → Option ℕ
runs_in None = None
runs_in (Some None) = None
runs_in (Some (Some c)) = Some c.cursor.runs

abbrev pub both_runs : Option ℕ → Option ℕ → Option ℕ
both_runs None more = None
both_runs (Some sum) None = None
both_runs (Some sum) (Some more) = Some (min (sum + more) (2 ^ 64 - 1))

-- how many runs parts had, with one more part, if that is known of each
abbrev pub sum_runs : Option ℕ → Option (Option Checkpoint) → Option ℕ
sum_runs sum kept = both_runs sum (runs_in kept)

-- none was counted
abbrev pub none_counted : RunCount
none_counted = record { cycle = 0; runs = None }

-- with one more report, in the cycle of that one
abbrev pub counted_with : RunCount → ℕ → Option (Option Checkpoint) → RunCount
counted_with count cycle kept = record { cycle = cycle; runs = sum_runs (if count.cycle == cycle then count.runs else Some 0) kept }

abbrev pub known_runs : RunCount → ℕ
known_runs count = number_or_none count.runs
  where
    number_or_none : Option ℕ → ℕ
    number_or_none None = 0
    number_or_none (Some runs) = runs

-- ---- what is known of the report that a part closed in a cycle

abbrev pub known_of : Facts → ℕ → Bool → FoundReport → KnownPart
known_of facts cycle has_said found = record {
  root = facts.root.items;
  from = facts.from;
  below = facts.below;
  further = facts.further;
  cycle = cycle;
  whole = found.whole;
  has_said = has_said;
  names = names_in found.kept;
  left = left_in found.kept;
}

-- if its report is there
abbrev pub known_if : Facts → ℕ → Bool → Option FoundReport → Option KnownPart
known_if facts cycle has_said None = None
known_if facts cycle has_said (Some found) = Some (known_of facts cycle has_said found)

-- if the part has a checkpoint, which says this
abbrev pub known_by : Folders → ℕ → ℕ → Option Facts → Option KnownPart
known_by f cycle number None = None
known_by f cycle number (Some facts) = known_if facts cycle (f.has_said cycle number) (f.found cycle number)

-- of all parts, by what their folders show
abbrev pub known_parts : Folders → List (Option Facts) → ℕ → List (Option KnownPart)
known_parts f all cycle = map (λ number. known_by f cycle number (facts_at all number)) (numbers (length all))
