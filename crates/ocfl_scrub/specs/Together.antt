-- What the runs of a cycle do together.
use Rattle.std.specs.Prelude.{◌≡◌, ◌<◌, ◌≤◌, ◌+◌, ◌-◌, ◌↔◌, ℕ, List, ◌++◌, Bool, true, false, Option, None, All, map, take, length}
use Rattle.std.specs.{List.{last_or}, Option.{option_map_or}}
use Rattle.ocfl_tree.specs.{Place.{Place}, StorageRoot.{StorageRoot}}
use Rattle.ocfl_tree.specs.declared.store.Opening.{Opening}
use Rattle.ocfl_report.specs.{Line.{Item}, Text.{text}}
use Rattle.ocfl_rules.specs.{Audit.{total_cost}, Parts.{Part}}
use Rattle.ocfl_rules.specs.Runs.{Limits, runs, joined, IsAtLeast, FilesFit, sum_of}
use Rattle.ocfl_cursor.specs.Cursor.{State, start, behind, ended, Cursor}
use Rattle.ocfl_item.specs.{Looking.{IsFront}, Auditing.{Audits, Fails}}
use Rattle.ocfl_report.specs.declared.further.Further.{Further}
use Rattle.ocfl_walk.specs.WalkCalls.{holder}
use Rattle.ocfl_scrub.specs.{Call.{Call, Writes}, Starting.{entry, read_in, items_in}}
use Rattle.ocfl_scrub.specs.{Written.{places, Figures, StopsWithin}, Types.{CycleStatus, ReportStop}}
use Rattle.ocfl_scrub.specs.{Cycling.{enough}, Taking.{stop_place}}
use Rattle.ocfl_scrub.specs.declared.cycling.CycleStatus.TheVariants as status

-- where the last item that was taken leaves the cursor of a cycle that has not ended
abbrev pub state_at : Option Place → State
state_at last = option_map_or behind last start

abbrev pub cycle_state : CycleStatus → Option Place → State
cycle_state status.Ended last = ended
cycle_state status.Spent last = state_at last
cycle_state (status.Stopped why) last = state_at last

-- the cursor of the first cycle, with these figures
abbrev pub cycle_cursor : Further → ℕ → ℕ → ℕ → State → Cursor
cycle_cursor further count spent files state = record {
  cycle = 1;
  runs = count;
  spent = spent;
  files = files;
  further = further;
  state = state;
}

-- the runs of the audit of a part, if a trail shows what could not be read
abbrev pub runs_in : Further → StorageRoot → List Opening → Part → List Limits → List (List Item)
runs_in further root trail part limits = runs (items_in further root trail part None) limits

-- what they take together
abbrev pub all_in : Further → StorageRoot → List Opening → Part → List Limits → List Item
all_in further root trail part limits = joined (runs_in further root trail part limits)

-- how many inventories a run of a part may read: that of the object that holds the place where the
-- part begins, and those of the part
abbrev pub inventories_in : StorageRoot → Part → ℕ
inventories_in root part = length (holder root (entry part None)) + length (read_in root part None None)

-- a cycle made the runs of the limits over a part: what they take together was written. Each hashed
-- file of it was opened once, in order. Inventories were read at most as often as one run may read
-- any, and once more for each run after the first. The part has ended if a run was made and
-- nothing of it is left
pub record CyclesWithin (call : Call) (part : Part) (last : Option Place) (limits : List Limits) (spent files : ℕ) (finding : Bool) (count : ℕ) (ends : Bool) : Type 0 where
  pub trail : List Opening
  pub listed : List Place
  pub heads : List Place
  pub audits : Audits call.further call.root call.before call.after (places (all_in call.further call.root trail part limits)) listed heads trail
  pub inventories_read : 1 ≤ count → length heads < inventories_in call.root part + count
  pub wrote : Writes call (text (all_in call.further call.root trail part limits))
  pub figures : Figures (all_in call.further call.root trail part limits) spent files finding
  pub count_is : count ≡ length (runs_in call.further call.root trail part limits)
  pub last_is : last ≡ last_or None (places (all_in call.further call.root trail part limits))
  pub ends_is : (ends ≡ true) ↔ ((1 ≤ count) × (all_in call.further call.root trail part limits ≡ items_in call.further call.root trail part None))
  pub few : (b n : ℕ) → 1 ≤ b → 1 ≤ n → All (IsAtLeast b n) limits → count ≤ enough (items_in call.further call.root trail part None) b n
  pub suffice : (b n : ℕ) → 1 ≤ b → 1 ≤ n → All (IsAtLeast b n) limits → enough (items_in call.further call.root trail part None) b n ≤ length limits → ends ≡ true
  pub by_sum : (k : ℕ) → 1 ≤ k → k ≤ length limits → FilesFit (items_in call.further call.root trail part None) limits → total_cost (items_in call.further call.root trail part None) ≤ sum_of (take k (map (λ l. l.budget) limits)) → (ends ≡ true) × (count ≤ k)

-- what the first n runs take together
abbrev pub first_in : Further → StorageRoot → List Opening → Part → List Limits → ℕ → List Item
first_in further root trail part limits count = joined (take count (runs_in further root trail part limits))

-- a cycle over a part stopped, in its last run or before a further one began: the first items that
-- its runs take went out whole, and of the next at most a proper beginning. Those of the runs
-- before the last are among them, even if the last took none
pub record CycleStopsWithin (call : Call) (part : Part) (last : Option Place) (limits : List Limits) (spent files : ℕ) (finding : Bool) (count : ℕ) (why : ReportStop) : Type 0 where
  pub trail : List Opening
  pub made : 1 ≤ count
  pub count_fits : count ≤ length (runs_in call.further call.root trail part limits)
  pub stops : StopsWithin (first_in call.further call.root trail part limits count) call.old call.new None last why
  pub runs_before : IsFront (first_in call.further call.root trail part limits (count - 1)) stops.whole
  pub figures : Figures stops.whole spent files finding
  pub listed : List Place
  pub heads : List Place
  pub fails : Fails call.further call.root call.before call.after (places stops.whole ++ stops.begun) listed heads trail (stop_place why)
  pub inventories_read : length heads < inventories_in call.root part + count

abbrev pub CycleEndsWithin : Call → Part → Option Place → List Limits → ℕ → ℕ → Bool → ℕ → CycleStatus → Type 0
CycleEndsWithin call part last limits spent files finding count status.Ended = CyclesWithin call part last limits spent files finding count true
CycleEndsWithin call part last limits spent files finding count status.Spent = CyclesWithin call part last limits spent files finding count false
CycleEndsWithin call part last limits spent files finding count (status.Stopped why) = CycleStopsWithin call part last limits spent files finding count why

-- a cycle over a part led to a cursor
pub record CyclesToWithin (call : Call) (part : Part) (limits : List Limits) (c : Cursor) (finding : Bool) (end : CycleStatus) : Type 0 where
  pub last : Option Place
  pub cycle : CycleEndsWithin call part last limits c.spent c.files finding c.runs end
  pub cursor_is : c ≡ cycle_cursor call.further c.runs c.spent c.files (cycle_state end last)
