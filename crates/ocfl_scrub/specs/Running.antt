-- What one run does: of a part of a storage root it takes what is above its cursor's place, as far
-- as its limits allow.
use Rattle.std.specs.Prelude.{◌≡◌, ◌≢◌, ◌↔◌, ◌<◌, ◌≤◌, ◌+◌, ◌^◌, ℕ, List, [], ◌∷◌, ◌++◌, Bool, false, Option, Some, None, length, slice_get, ⊤}
use Rattle.std.specs.{List.{last_or}, Option.{option_map_or}}
use Rattle.ocfl_tree.specs.{Place.{Place}, StorageRoot.{StorageRoot}, Store.{Store}}
use Rattle.ocfl_tree.specs.declared.store.Opening.{Opening}
use Rattle.ocfl_report.specs.{Line.{Item}, Text.{text}}
use Rattle.ocfl_rules.specs.{Audit.{audit, after}, Parts.{Part, within}}
use Rattle.ocfl_rules.specs.Runs.{Limits, sum_of, cut, left}
use Rattle.ocfl_cursor.specs.{Cursor.{State, start, behind, ended, Cursor}, Meter.{max_cost}}
use Rattle.ocfl_cursor.specs.Moves.{next_cycle, after_run}
use Rattle.ocfl_cursor.specs.declared.limits.Limits.{Limits as MadeLimits}
use Rattle.ocfl_report.specs.declared.further.Further.{Further}
use Rattle.ocfl_scrub.specs.declared.stop.ReportStop.TheVariants as halt
use Rattle.ocfl_scrub.specs.Call.{Call, IsUnfailing, WhereTold, Writes}
use Rattle.ocfl_scrub.specs.{Taking.{WritesLines, stop_place}, Types.{ReportStop, RunEnd, RunStatus}}
use Rattle.ocfl_scrub.specs.Starting.{AreAhead, FailsUpTo, LooksOver, StopsLooking, due_within, items_in}
use Rattle.ocfl_scrub.specs.Written.{places, Figures, StopsWithin}
use Rattle.ocfl_scrub.specs.declared.running.RunStatus.TheVariants as status

-- the limits that a run is given
abbrev pub limits_of : MadeLimits → Limits
limits_of l = record { budget = l.budget; files = l.files }

-- ---- cursors

-- the place above which a run takes items: none for a beginning
abbrev pub place_in : State → Option Place
place_in (behind p) = Some p
place_in _ = None

-- where the last item that was taken leaves the cursor
abbrev pub state_after : RunStatus → Option Place → State
state_after status.Ended last = ended
state_after _ last = option_map_or behind last start

-- the cursor that a run begins with: that of the next cycle where the last one has ended
abbrev pub begun_in : Cursor → State → Cursor
begun_in c ended = next_cycle c
begun_in c _ = c

abbrev pub begun : Cursor → Cursor
begun c = begun_in c c.state

-- no further cycle can be counted, or no further run of this one
abbrev pub IsWornIn : Cursor → State → Type 0
IsWornIn c start = c.runs + 1 ≡ 2 ^ 64
IsWornIn c (behind p) = c.runs + 1 ≡ 2 ^ 64
IsWornIn c ended = c.cycle + 1 ≡ 2 ^ 64

abbrev pub IsWorn : Cursor → Type 0
IsWorn c = IsWornIn c c.state

-- ---- of every store

-- costs of files, before each of which less than the budget was spent, and fewer files than their
-- limit were started
abbrev pub ArePaid : Limits → ℕ → ℕ → List ℕ → Type 0
ArePaid limits spent files [] = ⊤
ArePaid limits spent files (c ∷ costs) =
    (1 ≤ c) × ((c ≤ max_cost) × ((spent < limits.budget) × ((files < limits.files) × ArePaid limits (spent + c) (files + 1) costs)))

-- what was spent, and how many files were started
pub record IsPaid (limits : Limits) (spent files : ℕ) : Type 0 where
  pub costs : List ℕ
  pub paid : ArePaid limits 0 0 costs
  pub spent_is : spent ≡ sum_of costs
  pub files_is : files ≡ length costs

-- what a run does on any store, by what the store and the output are before it and after it
pub record RunsOnAnyStore {S O : Type 0} (contents : O → Option (List ℕ)) (before after : S) (old new : O) (c : Cursor) (limits : MadeLimits) (ran : RunEnd) : Type 0 where
  -- a run that cannot be counted is not made
  pub worn : (ran.end ≡ status.Worn) ↔ IsWorn c
  pub worn_cursor : ran.end ≡ status.Worn → ran.cursor ≡ c
  pub worn_figures : ran.end ≡ status.Worn → (ran.spent ≡ 0) × (ran.files ≡ 0) × (ran.found ≡ false)
  pub worn_silent : ran.end ≡ status.Worn → (after ≡ before) × (new ≡ old)
  pub cursor : ran.end ≢ status.Worn → (last : Option Place) × (ran.cursor ≡ after_run (begun c) ran.spent ran.files (state_after ran.end last))
  pub paid : IsPaid (limits_of limits) ran.spent ran.files
  pub overrun : ran.spent ≤ limits.budget + 2 ^ 62
  pub lines : ran.end ≢ status.Stopped halt.Output → WritesLines (contents old) (contents new) ran.found

-- ---- of a store that tells its tree

-- the items of a part above a place that the limits allow
abbrev pub taken_in : Further → StorageRoot → List Opening → Part → Option Place → Limits → List Item
taken_in further root trail part from limits = cut (items_in further root trail part from) limits

-- a run of a part took the cut of its limits. Each hashed file of it was opened once, in order, and
-- it looked up to the first item that is left
pub record RunsWithin (call : Call) (part : Part) (from last : Option Place) (limits : Limits) (spent files : ℕ) (finding : Bool) (next : Option Place) : Type 0 where
  pub trail : List Opening
  pub looks : LooksOver call part from next (places (taken_in call.further call.root trail part from limits)) trail
  pub wrote : Writes call (text (taken_in call.further call.root trail part from limits))
  pub figures : Figures (taken_in call.further call.root trail part from limits) spent files finding
  pub last_is : last ≡ last_or from (places (taken_in call.further call.root trail part from limits))
  pub next_is : next ≡ slice_get (places (left (items_in call.further call.root trail part from) limits)) 0

-- It stopped: the first items of the cut went out whole, and of the next at most a proper beginning.
-- No item that is left is before a directory that was looked into, or before that in which the store
-- failed
pub record RunStopsWithin (call : Call) (part : Part) (from last : Option Place) (limits : Limits) (spent files : ℕ) (finding : Bool) (why : ReportStop) : Type 0 where
  pub trail : List Opening
  pub stops : StopsWithin (taken_in call.further call.root trail part from limits) call.old call.new from last why
  pub figures : Figures stops.whole spent files finding
  pub looks : StopsLooking call part from (places stops.whole ++ stops.begun) trail why
  pub ahead : AreAhead (looks.down ++ looks.listed) (due_within call.further call.root part last)
  pub up_to : FailsUpTo (stop_place why) (due_within call.further call.root part last)

abbrev pub RunEndsWithin : Call → Part → Option Place → Option Place → Limits → ℕ → ℕ → Bool → RunStatus → Type 0
RunEndsWithin call part from last limits spent files finding status.Ended = RunsWithin call part from last limits spent files finding None
RunEndsWithin call part from last limits spent files finding status.Spent = (next : Place) × RunsWithin call part from last limits spent files finding (Some next)
RunEndsWithin call part from last limits spent files finding (status.Stopped why) = RunStopsWithin call part from last limits spent files finding why
RunEndsWithin call part from last limits spent files finding status.Worn = ⊥

-- a run from one cursor led to another
pub record RunsFromWithin (call : Call) (part : Part) (c : Cursor) (limits : Limits) (ran : RunEnd) : Type 0 where
  pub last : Option Place
  pub run : RunEndsWithin call part (place_in c.state) last limits ran.spent ran.files ran.found ran.end
  pub cursor_is : ran.cursor ≡ after_run (begun_in c c.state) ran.spent ran.files (state_after ran.end last)

-- ---- if no failure was counted

-- the text and the figures of a run are those of the cut of the audit of files that can all be read
pub record RunsCleanWithin (call : Call) (part : Part) (from : Option Place) (limits : Limits) (spent files : ℕ) (finding : Bool) : Type 0 where
  pub wrote : Writes call (text (cut (after (within part (audit call.further call.root [])) from) limits))
  pub figures : Figures (cut (after (within part (audit call.further call.root [])) from) limits) spent files finding

-- and it ended with the cycle exactly if it left nothing
abbrev pub RunsCleanlyWithin : Call → Part → Cursor → Limits → ℕ → ℕ → Bool → RunStatus → Type 0
RunsCleanlyWithin call part c limits spent files finding status.Ended = RunsCleanWithin call part (place_in c.state) limits spent files finding × (left (after (within part (audit call.further call.root [])) (place_in c.state)) limits ≡ [])
RunsCleanlyWithin call part c limits spent files finding status.Spent = RunsCleanWithin call part (place_in c.state) limits spent files finding × (left (after (within part (audit call.further call.root [])) (place_in c.state)) limits ≢ [])
RunsCleanlyWithin call part c limits spent files finding (status.Stopped why) = ⊤
RunsCleanlyWithin call part c limits spent files finding status.Worn = ⊤

-- ---- all that a run of a part does, on any store, and on one that tells its tree

pub record RunsOver {S O : Type 0} (tells : Bool) (state : S → Store) (contents : O → Option (List ℕ)) (before after : S) (old new : O) (part : Part) (c : Cursor) (limits : MadeLimits) (ran : RunEnd) : Type 0 where
  pub any_store : RunsOnAnyStore contents before after old new c limits ran
  pub told : WhereTold c.further tells state contents before after old new (λ call. ran.end ≢ status.Worn → RunsFromWithin call part c (limits_of limits) ran)
  pub unfailing : WhereTold c.further tells state contents before after old new (λ call. IsUnfailing call → RunsCleanlyWithin call part c (limits_of limits) ran.spent ran.files ran.found ran.end)
