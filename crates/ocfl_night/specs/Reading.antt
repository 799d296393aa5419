-- Which content files the runs of nights open, and what of a cycle has been taken.
use Rattle.std.specs.Prelude.{⊤, ◌≡◌, List, true, false, Option, Some, None, Result, Ok, Err}
use Rattle.ocfl_tree.specs.{Place.{Place, place_cmp}, Ascending.{IsAmong, IsAscending}}
use Rattle.ocfl_tree.specs.{StorageRoot.{StorageRoot}, Store.{Store}}
use Rattle.ocfl_report.specs.declared.further.Further.{Further}
use Rattle.ocfl_rules.specs.Trail.{content_trail}
use Rattle.ocfl_inventory.specs.Declaration.{is_declaration}
use Rattle.ocfl_inventory.specs.declared.declaration.Level.TheVariants.{Root}
use Rattle.ocfl_cursor.specs.Cursor.{Cursor, State}
use Rattle.ocfl_identity.specs.declared.identity.Identity.{Identity}
use Rattle.ocfl_scrub.specs.{Joining.{is_taken}, Running.{begun}}
use Rattle.ocfl_state.specs.{Checkpoint.{Checkpoint}, Content.{Content}}
use Rattle.ocfl_state.specs.declared.checkpoint_parts.{Phase.{Phase}, Phase.TheVariants.{Open, Closing}}
use Rattle.ocfl_tree.specs.Place.{Text}
use Rattle.ocfl_night.specs.{Looks.{opened_since}, Promises.{IfThere}, Sound.{IsAt}}
use Rattle.ocfl_terms.specs.declared.plan.Halt.{Halt}
use Rattle.ocfl_night.specs.declared.pause.Pause.{Pause}
use Rattle.ocfl_terms.specs.declared.plan.Halt.TheVariants as halt

-- the content files that were opened from one moment to another, in order; so are the inventories of
-- versions, if an audit checks them
abbrev pub content_since : Further → StorageRoot → Store → Store → List Place
content_since further root s t = content_trail further root (opened_since s t)

-- the files that tell one storage root from another are declarations
abbrev pub AreDeclarations : Identity → Type 0
AreDeclarations id = (n : Text) → IsAmong id.declarations.items n → is_declaration Root n ≡ true

-- ---- what has been taken

-- none of some places has been taken where a cycle has come to this
pub record AreBeyond (there : State) (ps : List Place) : Type 0 where
  pub each : (p : Place) → IsAmong ps p → is_taken there p ≡ false

-- each of them has
pub record AreTaken (there : State) (ps : List Place) : Type 0 where
  pub each : (p : Place) → IsAmong ps p → is_taken there p ≡ true

-- what had been taken is still taken
pub record StaysTaken (from to : State) : Type 0 where
  pub each : (p : Place) → is_taken from p ≡ true → is_taken to p ≡ true

-- each was opened once, in order, and has been taken
pub record AreReadOnce (there : State) (ps : List Place) : Type 0 where
  pub once : IsAscending place_cmp ps
  pub taken : AreTaken there ps

-- where the cycle has come whose report a checkpoint has: the cycle of its cursor, or the next one if
-- that has ended and the report of the next one is open
abbrev pub reached_in : Phase → Cursor → State
reached_in Open c = (begun c).state
reached_in Closing c = c.state

abbrev pub reached : Checkpoint → State
reached k = reached_in k.phase k.cursor

-- ---- what runs read

-- By where a run stopped, or what it halts: if the night goes on, the run read each file once. It
-- stopped at no place.
abbrev pub IsReadBy : Result Place (Option Pause) → State → List Place → Type 0
IsReadBy (Ok p) there ps = ⊥
IsReadBy (Err None) there ps = AreReadOnce there ps
IsReadBy (Err (Some why)) there ps = ⊤

-- a run that opened these files, from where the cycle was before it to where it came, and whether it
-- stopped; the rest holds if no failure was counted
pub record HasRead (s t : Store) (from to : State) (at : Result Place (Option Pause)) (ps : List Place) : Type 0 where
  pub stays : StaysTaken from to
  pub once : t.failures ≡ s.failures → IsReadBy at to ps

-- no run of a night stopped, and after each the root was the same; nor was anything troubled
abbrev pub EndsInOrder : Halt → Type 0
EndsInOrder (halt.CycleEnded cycle) = ⊤
EndsInOrder halt.TimeUp = ⊤
EndsInOrder halt.Spent = ⊤
EndsInOrder halt.Asked = ⊤
EndsInOrder _ = ⊥

-- runs that opened these files, from where the cycle was before them to where they came, by which a
-- night ends so
pub record HaveRead (s t : Store) (from to : State) (end : Halt) (ps : List Place) : Type 0 where
  pub stays : StaysTaken from to
  pub once : t.failures ≡ s.failures → EndsInOrder end → AreReadOnce to ps

-- where a checkpoint that a night left has come: where its cursor is if the night ended the cycle, and
-- else where the next run begins
abbrev pub came_to : Halt → Cursor → State
came_to (halt.CycleEnded cycle) c = c.state
came_to _ c = (begun c).state

-- the same of runs in order, where this is in the folder then: its checkpoint is the one to which they
-- came
pub record IsReadTo (s t : Store) (from : State) (end : Halt) (c : Content) (ps : List Place) : Type 0 where
  pub last : Checkpoint
  pub at : IsAt last c
  pub stays : StaysTaken from (came_to end last.cursor)
  pub once : t.failures ≡ s.failures → AreReadOnce (came_to end last.cursor) ps

-- ---- what a night reads

-- whatever it ended with: of what the checkpoint that was there has taken, it opened nothing
abbrev pub ReadsBeyond : Content → List Place → Type 0
ReadsBeyond c ps = IfThere c (λ k. AreBeyond (begun k.cursor).state ps)

-- If it ended so, in order, it led to a checkpoint of which what had been taken is still taken. If no
-- failure was counted either, it opened each content file once, in order, and that checkpoint has taken
-- all of them.
pub record IsRead (s t : Store) (end : Halt) (old new : Content) (ps : List Place) : Type 0 where
  pub last : Checkpoint
  pub at : IsAt last new
  pub stays : IfThere old (λ k. StaysTaken (begun k.cursor).state (came_to end last.cursor))
  pub once : t.failures ≡ s.failures → AreReadOnce (came_to end last.cursor) ps
