-- What of a night may be opened again after a crash: what one run opened, and of each run that stopped
-- one file; and what its store was asked for besides.
use Rattle.std.specs.Prelude.{◌≡◌, ◌≢◌, ◌⊎◌, ℕ, ◌<◌, ◌≤◌, List, [], ◌∷◌, ◌++◌, Bool, Err, Option, None, Some, length, ⊤}
use Rattle.ocfl_tree.specs.{Place.{Place, place_cmp}, Ascending.{IsAscending}, StorageRoot.{StorageRoot}, Store.{Store}}
use Rattle.ocfl_report.specs.declared.further.Further.{Further}
use Rattle.ocfl_rules.specs.Parts.{Part}
use Rattle.ocfl_cursor.specs.Cursor.{State}
use Rattle.ocfl_state.specs.declared.folder.StateFolder as state
use Rattle.ocfl_state.specs.{Checkpoint.{Checkpoint}, Content.{Content}, Crash.{LeavesOnly}}
use Rattle.ocfl_night.specs.Asking.{AskedFrom, AskedLast, GaveAll, HasLooked, IsMetBy, declaring}
use Rattle.ocfl_night.specs.{Beginning.{BeginsAt}, Ending.{cycle_of, place_or_pause}, Promises.{IfReady, IfThere}}
use Rattle.ocfl_terms.specs.Clock.{Event, Asked, Read, Heard}
use Rattle.ocfl_night.specs.{Reading.{AreTaken, StaysTaken, content_since, reached}, Sound.{IsAt}}
use Rattle.ocfl_night.specs.declared.pause.Pause.{Pause}
use Rattle.ocfl_terms.specs.{declared.made.Made.{Made}, declared.made.SliceEnd.{SliceEnd}}
use Rattle.ocfl_terms.specs.declared.made.SliceEnd.TheVariants as slice

-- ---- checkpoints

-- a checkpoint is of a later cycle, or has taken what another one of the same cycle has
abbrev pub GoesOn : Checkpoint → Checkpoint → Type 0
GoesOn k l = (cycle_of k < cycle_of l) ⊎ ((cycle_of k ≡ cycle_of l) × StaysTaken (reached k) (reached l))

-- in a folder that is ready at a checkpoint, whenever a crash comes, the one that is left goes on from it
abbrev pub OnlyGoesOn : {F : Type 0} → state.Ghosts F → Checkpoint → F → F → Type 0
OnlyGoesOn S k old new = IfReady S k old (λ rounds t. LeavesOnly S.moment S.left_since old new (λ c. IfThere c (GoesOn k)))

-- it is of a later cycle than this one, or has taken these places of it
abbrev pub HasDone : ℕ → List Place → Checkpoint → Type 0
HasDone cycle ps k = (cycle < cycle_of k) ⊎ ((cycle ≡ cycle_of k) × AreTaken (reached k) ps)

-- ---- one run

-- what it had begun with and not taken when it ended so: nothing, or if it stopped, at most one file
abbrev pub AreFew : SliceEnd → List Place → Type 0
AreFew slice.Ended ps = ps ≡ []
AreFew slice.Spent ps = ps ≡ []
AreFew (slice.Stopped why) ps = length ps ≤ 1
AreFew _ ps = ⊤

-- of the content files that it opened it took these, by where it led, and had begun with those
pub record TookOrBegan (to : State) (end : SliceEnd) (ps : List Place) : Type 0 where
  pub took : List Place
  pub begun : List Place
  pub are : ps ≡ took ++ begun
  pub taken : AreTaken to took
  pub few : AreFew end begun

-- ---- a night, run by run

-- A run after which the night went on: the checkpoint from which it was made, where the walk had met an
-- item with which it went on, what it made, the content files that it took and those that it had begun
-- with, and the store and the folder before it and before the next run.
pub record Leg (F : Type 0) : Type 0 where
  pub from : Checkpoint
  pub met : Option Place
  pub made : Made
  pub took : List Place
  pub begun : List Place
  pub before : Store
  pub after : Store
  pub old : F
  pub new : F

-- what some took, the last one first
abbrev pub took_by : {F : Type 0} → List (Leg F) → List Place
took_by [] = []
took_by (l ∷ earlier) = took_by earlier ++ l.took

-- what they made
abbrev pub made_by : {F : Type 0} → List (Leg F) → List Made
made_by [] = []
made_by (l ∷ earlier) = made_by earlier ++ l.made ∷ []

-- the checkpoint that is there has the cursor to which a run led
pub record LedTo (made : Made) (c : Content) : Type 0 where
  pub checkpoint : Checkpoint
  pub at : IsAt checkpoint c
  pub cursor : checkpoint.cursor ≡ made.checkpoint.cursor

-- It was made from the checkpoint that was there. Its store was asked for what such a run asks for, and
-- then no file was opened but those that declare the root, and nothing was listed. It opened what it took
-- and had begun with, each once, in order, and none of it had been taken before. Whenever a crash comes in
-- it, the checkpoint that is left has taken all that was taken before it; and where the leg ends, the
-- checkpoint is there to which the run led.
pub record IsLeg {F : Type 0} (root : StorageRoot) (part : Part) (S : state.Ghosts F) (cycle : ℕ) (taken : List Place) (l : Leg F) : Type 0 where
  pub goes_on : (why : Pause) → place_or_pause l.made.end ≢ Err (Some why)
  pub at : IsAt l.from (S.seen l.old)
  pub asked : AskedFrom root part (declaring root) l.met l.from (GaveAll l.from l.made) l.before l.after
  pub opened : content_since l.from.cursor.further root l.before l.after ≡ l.took ++ l.begun
  pub few : AreFew l.made.end l.begun
  pub once : IsAscending place_cmp (taken ++ content_since l.from.cursor.further root l.before l.after)
  pub crash : LeavesOnly S.moment S.left_since l.old l.new (λ c. IfThere c (HasDone cycle taken))
  pub led : LedTo l.made (S.seen l.new)

-- the walk with which a run goes on is that of the run before it, if its limits ended that one; else it
-- begins one, and so does the first
abbrev pub IsMetAfter : {F : Type 0} → List (Leg F) → Option Place → Type 0
IsMetAfter [] met = met ≡ None
IsMetAfter (l ∷ earlier) met = IsMetBy l.made.end met

-- The last one first: each began with the store and the folder that the one before it left, so nothing
-- is done to them between two.
abbrev pub AreLegs : {F : Type 0} → StorageRoot → Part → state.Ghosts F → ℕ → Store → List (Leg F) → Store → F → Type 0
AreLegs root part S cycle began [] now folder = now ≡ began
AreLegs root part S cycle began (l ∷ earlier) now folder =
    (l.after ≡ now) × (l.new ≡ folder) × IsMetAfter earlier l.met × IsLeg root part S cycle (took_by earlier) l × AreLegs root part S cycle began earlier l.before l.old

-- what a clock heard
abbrev pub heard_in : List Event → List Made
heard_in [] = []
heard_in (Asked stops ∷ events) = heard_in events
heard_in (Read now ∷ events) = heard_in events
heard_in (Heard made ∷ events) = made ∷ heard_in events

-- From the store s on a night was runs after which it went on, and then at most one more, and nothing
-- else was asked of the store. What that one opened is all that may be opened again, but for what those
-- had begun with: each file was opened once, in order, and whenever a crash comes, the checkpoint that is
-- left has taken what those took.
pub record IsLittleAgain {F : Type 0} (root : StorageRoot) (part : Part) (S : state.Ghosts F) (cycle : ℕ) (old new : List Event) (s t : Store) (folder : F) : Type 0 where
  pub legs : List (Leg F)
  pub before : Store
  pub left : F
  pub are : AreLegs root part S cycle s legs before left
  pub from : Checkpoint
  pub at : IsAt from (S.seen left)
  pub met : Option Place
  pub walk : IsMetAfter legs met
  pub once : IsAscending place_cmp (took_by legs ++ content_since from.cursor.further root before t)
  pub crash : LeavesOnly S.moment S.left_since left folder (λ c. IfThere c (HasDone cycle (took_by legs)))
  pub events : List Event
  pub are_new : new ≡ old ++ events
  pub last : List Made
  pub heard : heard_in events ≡ made_by legs ++ last
  pub one : length last ≤ 1
  pub asked : AskedLast root part (declaring root) met from last before t

-- from where a night begins, once it has looked at the root
pub record IsLittleSince {F : Type 0} (further : Further) (create : Bool) (root : StorageRoot) (part : Part) (S : state.Ghosts F) (c : Content) (old new : List Event) (s t : Store) (folder : F) : Type 0 where
  pub start : Checkpoint
  pub begins : BeginsAt further create c start
  pub there : Store
  pub looked : HasLooked further root s there
  pub little : IsLittleAgain root part S (cycle_of start) old new there t folder
