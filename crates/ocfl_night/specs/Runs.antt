-- A night as the list of its runs, by what its clock answered and heard.
use Rattle.std.specs.Prelude.{◌≡◌, ◌⊎◌, ℕ, List, [], ◌∷◌, ◌++◌, Bool, IsTrue, true, false, Option, Some, None, Result, Ok, Err, flat_map}
use Rattle.ocfl_tree.specs.Place.{Place}
use Rattle.ocfl_report.specs.declared.further.Further.{Further}
use Rattle.ocfl_cursor.specs.Limits.{IsLimit}
use Rattle.ocfl_cursor.specs.declared.limits.Limits.{Limits}
use Rattle.ocfl_state.specs.{Checkpoint.{Checkpoint}, Content.{Content}}
use Rattle.ocfl_state.specs.declared.checkpoint_parts.Phase.TheVariants.{Open, Closing}
use Rattle.ocfl_night.specs.{Beginning.{BeginsAt, Position, StandsAt, position}, Pace.{is_before}, Done.{Done, nothing_done, with_begun, with_made, with_none_tried}}
use Rattle.ocfl_terms.specs.Clock.{Event, Asked, Read, Heard}
use Rattle.ocfl_night.specs.{Ending.{IsSlice, place_or_pause}, Leaving.{done_by, remedy_at, with_remedy}}
use Rattle.ocfl_night.specs.{Pace.{budget_at, files_at}, Steps.{IsNotBegun, begun_anew}}
use Rattle.ocfl_terms.specs.{declared.plan.Halt.{Halt}, declared.plan.NightEnd.{NightEnd}, declared.plan.Plan.{Plan}}
use Rattle.ocfl_night.specs.declared.pause.Pause.{Pause}
use Rattle.ocfl_terms.specs.{declared.made.Made.{Made}, declared.stop.Stop.{Stop}}
use Rattle.ocfl_night.specs.declared.tally.Remedy.{Remedy}
use Rattle.ocfl_terms.specs.declared.plan.Halt.TheVariants as halt
use Rattle.ocfl_night.specs.declared.pause.Pause.TheVariants as pause

-- ---- one run

-- when it began, and what it made
pub record Run : Type 0 where
  pub now : ℕ
  pub made : Made

-- before it the clock answered that the night is not asked to stop, and the time
abbrev pub events_of : Run → List Event
events_of r = Asked false ∷ Read r.now ∷ Heard r.made ∷ []

-- a run may begin: the cycle goes on, the end has not come, and the plan allows a file more
pub record MayBeginAt (plan : Plan) (d : Done) (k : Checkpoint) (now : ℕ) : Type 0 where
  pub goes_on : k.phase ≡ Open
  pub in_time : is_before now plan.end ≡ true
  pub files : IsLimit (files_at plan d)

-- a run that a night made which had done so much, from this checkpoint: within the limits that the
-- plan gives for that time and for what was done
pub record IsRunOf (plan : Plan) (d : Done) (k : Checkpoint) (r : Run) : Type 0 where
  pub may : MayBeginAt plan d k r.now
  pub limits : Limits
  pub budget : limits.budget ≡ budget_at plan d r.now
  pub files : limits.files ≡ files_at plan d
  pub made : IsSlice k limits r.made

-- ---- what comes after it

-- what is done then, the checkpoint, and what halts the night, if anything does
pub record Turn : Type 0 where
  pub done : Done
  pub checkpoint : Checkpoint
  pub pause : Option Pause

abbrev pub turn_of : Done → Checkpoint × Option Pause → Turn
turn_of d next = record { done = d; checkpoint = next.0; pause = next.1 }

-- for a place at which the run stopped this is done
abbrev pub remedied : Done → Checkpoint → Place → Remedy → Turn
remedied d k p remedy = turn_of (with_remedy p remedy d) (done_by k p remedy)

-- after a run that stopped at a place; after any other one no place is tried once more
abbrev pub after_end : Bool → Done → Checkpoint → Result Place (Option Pause) → Turn
after_end strict d k (Ok p) = remedied d k p (remedy_at strict d p)
after_end strict d k (Err why) = turn_of (with_none_tried d) (k, why)

abbrev pub after_made : Bool → Done → Made → Turn
after_made strict d made = after_end strict d made.checkpoint (place_or_pause made.end)

-- a run that stopped at a place left a checkpoint whose cycle goes on
abbrev pub StopsOpen : Made → Type 0
StopsOpen made = (p : Place) → place_or_pause made.end ≡ Ok p → made.checkpoint.phase ≡ Open

abbrev pub turn : Plan → Done → Run → Turn
turn plan d r = after_made plan.stop_at_faults (with_made r.made (with_begun r.now d)) r.made

-- ---- several

-- each was made where the one before it led, and none halted the night
abbrev pub AreRunsOf : Plan → Done → Checkpoint → List Run → Done → Checkpoint → Type 0
AreRunsOf plan d k [] e l = (e ≡ d) × (l ≡ k)
AreRunsOf plan d k (r ∷ runs) e l = IsRunOf plan d k r × ((turn plan d r).pause ≡ None) × AreRunsOf plan (turn plan d r).done (turn plan d r).checkpoint runs e l

-- ---- whether a run may begin

-- by what the clock answers: its limits, and the time; or why none is made
abbrev pub IsAllowed : Plan → Done → List Event → List Event → Result (Limits × ℕ) Pause → Type 0
IsAllowed plan d old new (Ok r) = (new ≡ old ++ Asked false ∷ Read r.1 ∷ []) × (is_before r.1 plan.end ≡ true) × IsLimit (files_at plan d) × (r.0.budget ≡ budget_at plan d r.1) × (r.0.files ≡ files_at plan d)
IsAllowed plan d old new (Err pause.Asked) = new ≡ old ++ Asked true ∷ []
IsAllowed plan d old new (Err pause.TimeUp) = (now : ℕ) × ((new ≡ old ++ Asked false ∷ Read now ∷ []) × (is_before now plan.end ≡ false))
IsAllowed plan d old new (Err pause.Spent) = ((now : ℕ) × ((new ≡ old ++ Asked false ∷ Read now ∷ []) × (is_before now plan.end ≡ true))) × (IsLimit (files_at plan d) → ⊥)
IsAllowed plan d old new (Err _) = ⊥

-- ---- why no further run is made, by what the clock was asked and heard since

-- A run was made that halts the night for this. So much is done then, and this is the checkpoint.
pub record IsHalted (plan : Plan) (d : Done) (k : Checkpoint) (last : List Event) (why : Pause) (e : Done) (l : Checkpoint) : Type 0 where
  pub run : Run
  pub is : IsRunOf plan d k run
  pub events : last ≡ events_of run
  pub halts : turn plan d run ≡ turn_of e (l, Some why)

-- no further run is made: the cycle has ended, or the clock answered so, or the plan's files are used
-- up, or a run halts the night
abbrev pub IsPaused : Plan → Done → Checkpoint → List Event → Pause → Done → Checkpoint → Type 0
IsPaused plan d k last pause.Closing e l = (k.phase ≡ Closing) × (last ≡ []) × (e ≡ d) × (l ≡ k)
IsPaused plan d k last pause.Asked e l = (k.phase ≡ Open) × (last ≡ Asked true ∷ []) × (e ≡ d) × (l ≡ k)
IsPaused plan d k last pause.TimeUp e l = (k.phase ≡ Open) × ((now : ℕ) × ((last ≡ Asked false ∷ Read now ∷ []) × (is_before now plan.end ≡ false))) × (e ≡ d) × (l ≡ k)
IsPaused plan d k last pause.Spent e l = (k.phase ≡ Open) × ((now : ℕ) × ((last ≡ Asked false ∷ Read now ∷ []) × (is_before now plan.end ≡ true))) × (IsLimit (files_at plan d) → ⊥) × (e ≡ d) × (l ≡ k)
IsPaused plan d k last (pause.Stopped why) e l = IsHalted plan d k last (pause.Stopped why) e l
IsPaused plan d k last pause.RootChanged e l = IsHalted plan d k last pause.RootChanged e l

-- after a run no branch more was left out, or the one that is to be for it
abbrev pub MayHaveLeft : Bool → Done → Made → Done → Type 0
MayHaveLeft strict d made e = (e.left ≡ d.left) ⊎ (e.left ≡ (after_made strict d made).done.left)

-- a run was begun, and something failed in it, or after it once the clock had heard of it
pub data IsBroken (plan : Plan) (d : Done) (k : Checkpoint) (last : List Event) (e : Done) : Type 0 where
  in_it : (now : ℕ) → MayBeginAt plan d k now → last ≡ Asked false ∷ Read now ∷ [] → e ≡ with_begun now d → IsBroken plan d k last e
  after_it : (r : Run) → IsRunOf plan d k r → last ≡ events_of r → e.runs ≡ (with_begun r.now d).runs
      → MayHaveLeft plan.stop_at_faults (with_made r.made (with_begun r.now d)) r.made e → IsBroken plan d k last e

-- that, or no further run could be counted
abbrev pub IsFailed : Plan → Done → Checkpoint → List Event → Done → Type 0
IsFailed plan d k last e = IsBroken plan d k last e ⊎ ((last ≡ []) × (e ≡ d))

abbrev pub IsEndedBy : Plan → Done → Checkpoint → List Event → Done → Result (Checkpoint × Pause) Stop → Type 0
IsEndedBy plan d k last e (Ok r) = IsPaused plan d k last r.1 e r.0
IsEndedBy plan d k last e (Err why) = IsFailed plan d k last e

-- Runs are made from a checkpoint by a night that has done so much, and then no further one. The clock
-- was asked and heard just what this takes.
pub record AreMade (plan : Plan) (old new : List Event) (d : Done) (k : Checkpoint) (Ends : Done → Checkpoint → List Event → Type 0) : Type 0 where
  pub runs : List Run
  pub done : Done
  pub checkpoint : Checkpoint
  pub last : List Event
  pub made : AreRunsOf plan d k runs done checkpoint
  pub ends : Ends done checkpoint last
  pub events : new ≡ old ++ (flat_map events_of runs ++ last)

-- ---- a night

-- What ends it, what it has done then, and where it stops. If it is not troubled, this holds of where
-- the last run led, or if the cycle has ended, of where the next one begins.
abbrev pub EndsBy : (Position → Type 0) → Plan → Halt → Done → Done → Checkpoint → List Event → Type 0
EndsBy Left plan (halt.CycleEnded cycle) e d k last = (k.phase ≡ Closing) × (last ≡ []) × (cycle ≡ k.cursor.cycle) × (e ≡ d) × Left (position (begun_anew k))
EndsBy Left plan halt.TimeUp e d k last = (l : Checkpoint) × (IsPaused plan d k last pause.TimeUp e l × Left (position l))
EndsBy Left plan halt.Spent e d k last = (l : Checkpoint) × (IsPaused plan d k last pause.Spent e l × Left (position l))
EndsBy Left plan halt.Asked e d k last = (l : Checkpoint) × (IsPaused plan d k last pause.Asked e l × Left (position l))
EndsBy Left plan (halt.Stopped why) e d k last = (l : Checkpoint) × (IsPaused plan d k last (pause.Stopped why) e l × Left (position l))
EndsBy Left plan halt.RootChanged e d k last = (l : Checkpoint) × (IsPaused plan d k last pause.RootChanged e l × Left (position l))
EndsBy Left plan (halt.Refused why) e d k last = ⊥
EndsBy Left plan (halt.Troubled why) e d k last = IsFailed plan d k last e ⊎ ((pause : Pause) × ((l : Checkpoint) × IsPaused plan d k last pause e l))

-- a night that was begun, in a folder that tells this content and then that: its runs, from the
-- checkpoint at which it begins, and its figures; the folder's checkpoint then stands where they led
pub record IsBegunNight (further : Further) (plan : Plan) (tells : Bool) (c d : Content) (old new : List Event) (end : NightEnd) : Type 0 where
  pub start : Checkpoint
  pub begins : IsTrue tells → BeginsAt further plan.create c start
  pub done : Done
  pub runs : AreMade plan old new nothing_done start (EndsBy (λ p. IsTrue tells → StandsAt d p) plan end.end done)
  pub begun : end.runs ≡ done.runs
  pub left : end.left.items ≡ done.left

-- one that was not: it made no run, and asked its clock nothing
pub record IsNoNight (old new : List Event) (end : NightEnd) : Type 0 where
  pub not_begun : IsNotBegun end.end
  pub same : new ≡ old
  pub runs : end.runs ≡ 0
  pub left : end.left.items ≡ []

abbrev pub IsNight : Further → Plan → Bool → Content → Content → List Event → List Event → NightEnd → Type 0
IsNight further plan tells c d old new end = IsBegunNight further plan tells c d old new end ⊎ IsNoNight old new end
