-- Chains of runs: what nights write of one cycle, each run from the cursor that the one before it
-- answered, also around branches that are left out; and what a closed report is.
use Rattle.std.specs.Prelude.{⊤, ℕ, ◌≡◌, ◌≢◌, ◌⊎◌, ◌+◌, List, [], ◌∷◌, ◌++◌, true, false, Option, Some, None, flat_map}
use Rattle.std.specs.{List.{AllByRecursion}, Ordering.{is_lt}}
use Rattle.ocfl_tree.specs.{Place.{Text, Place, place_cmp}, Ascending.{IsAmong}, StorageRoot.{StorageRoot}}
use Rattle.ocfl_report.specs.declared.further.Further.{Further}
use Rattle.ocfl_rules.specs.{Parts.{Part}, Trail.{unread_of}}
use Rattle.ocfl_cursor.specs.Cursor.{Cursor}
use Rattle.ocfl_scrub.specs.{Running.{place_in}, Joining.{PartRun, Ran}, Starting.{due_within}}
use Rattle.ocfl_scrub.specs.declared.running.RunStatus.TheVariants as status
use Rattle.ocfl_state.specs.{Content.{Closed}, declared.checkpoint_parts.Left.{Left}}
use Rattle.ocfl_night.specs.Looks.{IsRootOf, Known, Look, IfGiven, IsOneOf, MayBeGone, Rounds}

-- a run, and the storage root as it was then
pub record RootRun : Type 0 where
  pub root : StorageRoot
  pub run : PartRun

-- what it looked at, by what it checks
abbrev pub look_of : Further → RootRun → Look
look_of further r = record { root = r.root; unread = unread_of further r.root r.run.opened }

-- each of some runs was one of these looks, if any are known
abbrev pub AreLooked : Further → Option Known → List RootRun → Type 0
AreLooked further known runs = AllByRecursion (λ r. IsOneOf known (look_of further r)) runs

-- what runs wrote, joined
abbrev pub joined : List RootRun → Text
joined runs = flat_map (λ r. r.run.report) runs

-- each was made from the cursor that the one before it answered, none ended the cycle, and the last
-- answered this cursor; all check this
abbrev pub LeadTo : Further → Part → Cursor → List RootRun → Cursor → Type 0
LeadTo further part c [] d = d ≡ c
LeadTo further part c (r ∷ runs) d = Ran further r.root part c r.run × (r.run.ran.end ≢ status.Ended) × LeadTo further part r.run.ran.cursor runs d

-- the same, but the last of them ended the cycle
abbrev pub EndAt : Further → Part → Cursor → List RootRun → Cursor → Type 0
EndAt further part c [] d = ⊥
EndAt further part c (r ∷ []) d = Ran further r.root part c r.run × (r.run.ran.end ≡ status.Ended) × (d ≡ r.run.ran.cursor)
EndAt further part c (r ∷ q ∷ runs) d = Ran further r.root part c r.run × (r.run.ran.end ≢ status.Ended) × EndAt further part r.run.ran.cursor (q ∷ runs) d

-- ---- branches that are left out

-- the place with the byte 1 after its last name: its branch is before that
abbrev pub past : Place → Place
past [] = []
past (n ∷ []) = (n ++ 1 ∷ []) ∷ []
past (n ∷ m ∷ p) = n ∷ past (m ∷ p)

-- what of a part comes after a branch
abbrev pub past_branch : Part → Left → Part
past_branch part l = record part { from = Some (past l.place) }

-- and after several, left out one after the other
abbrev pub part_after : Part → List Left → Part
part_after part [] = part
part_after part (l ∷ left) = part_after (past_branch part l) left

-- where that begins, of what begins at a place
abbrev pub from_after : Option Place → List Left → Option Place
from_after from [] = from
from_after from (l ∷ left) = from_after (Some (past l.place)) left

-- Runs of a part, and of what comes after each branch that was left out. The cursor then stood where
-- that says, and stays there. The last leg is one of these.
abbrev pub LedBy : (Further → Part → Cursor → List RootRun → Cursor → Type 0) → Further → Part → Cursor → List RootRun → List Left → Cursor → Type 0
LedBy Last further part c runs [] d = Last further part c runs d
LedBy Last further part c runs (l ∷ left) d =
    (first : List RootRun) × ((rest : List RootRun) × ((e : Cursor) × ((runs ≡ first ++ rest) × (LeadTo further part c first e × ((place_in e.state ≡ l.after) × LedBy Last further (past_branch part l) e rest left d)))))

-- the cycle goes on, or has ended
abbrev pub Led : Further → Part → Cursor → List RootRun → List Left → Cursor → Type 0
Led further part c runs left d = LedBy LeadTo further part c runs left d

abbrev pub LedToEnd : Further → Part → Cursor → List RootRun → List Left → Cursor → Type 0
LedToEnd further part c runs left d = LedBy EndAt further part c runs left d

-- no item of a part that is above a place is before a branch
abbrev pub NoneBefore : Further → StorageRoot → Part → Option Place → Place → Type 0
NoneBefore further root part from branch = (p : Place) → IsAmong (due_within further root part from) p → is_lt (place_cmp p branch) ≡ false

-- So between where each of some branches was left out and that branch there was no item, over the
-- storage root of one of these looks: what was lost with it is its own.
abbrev pub AreNextIn : Further → Option Known → Part → List Left → Type 0
AreNextIn further known part [] = ⊤
AreNextIn further known part (l ∷ left) = ((root : StorageRoot) × (IsRootOf known root × NoneBefore further root part l.after l.place)) × AreNextIn further known (past_branch part l) left

-- ---- closed reports

-- a chain of a cycle's runs from its start to a cursor, around the branches that were left out: all
-- check what the rounds do, and so does that cursor, from which the next one is made
pub record HasRuns (Last : Further → Part → Cursor → List RootRun → Cursor → Type 0) (rounds : Rounds) (left : List Left) (last : Cursor) : Type 0 where
  pub first : Cursor
  pub runs : List RootRun
  pub starts : place_in first.state ≡ None
  pub checks : last.further ≡ rounds.further
  pub chain : LedBy Last rounds.further rounds.part first runs left last
  pub next : AreNextIn rounds.further rounds.known rounds.part left
  pub looked : AreLooked rounds.further rounds.known runs

-- a closed report is what the runs of its cycle wrote around these branches, which were left out
pub record IsReportOf (rounds : Rounds) (left : List Left) (d : Closed) : Type 0 where
  pub last : Cursor
  pub led : HasRuns EndAt rounds left last
  pub cycle : d.cycle ≡ last.cycle
  pub report : d.report ≡ joined led.runs

-- one that is called whole is what a whole chain wrote, and any other one, unless something was lost,
-- what was written around branches that were left out, at least one
pub record IsClosedAs (rounds : Rounds) (d : Closed) : Type 0 where
  pub whole : d.whole ≡ true → IsReportOf rounds [] d
  pub partial : IfGiven rounds.known (d.whole ≡ false → (left : List Left) × ((left ≢ []) × IsReportOf rounds left d))

-- the closed reports of the cycles from one on, each once, up to the one before the next
abbrev pub AreClosed : Rounds → ℕ → List Closed → ℕ → Type 0
AreClosed rounds n [] next = next ≡ n
AreClosed rounds n (d ∷ closed) next = (d.cycle ≡ n) × IsClosedAs rounds d × AreClosed rounds (n + 1) closed next

-- what is left of closed reports if only those of some cycles may be gone
abbrev pub AreLeft : (ℕ → Type 0) → List Closed → List Closed → Type 0
AreLeft Gone [] left = left ≡ []
AreLeft Gone (d ∷ closed) left = ((rest : List Closed) × ((left ≡ d ∷ rest) × AreLeft Gone closed rest)) ⊎ (Gone d.cycle × AreLeft Gone closed left)

-- the closed reports that are there are what is left of those of all cycles up to the one before the
-- next
pub record HasClosed (rounds : Rounds) (next : ℕ) (closed : List Closed) : Type 0 where
  pub all : List Closed
  pub are : AreClosed rounds 1 all next
  pub left : AreLeft (MayBeGone rounds.known) all closed
