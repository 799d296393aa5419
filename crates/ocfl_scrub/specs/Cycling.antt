-- What a cycle does on any store, and the headline.
use Rattle.std.specs.Prelude.{◌≡◌, ◌≢◌, ◌≤◌, ◌+◌, ◌/◌, ◌↔◌, ℕ, List, [], ◌∷◌, ◌++◌, Bool, true, false, Option, All, map, length, ⊤}
use Rattle.ocfl_tree.specs.{Store.{Store}, declared.store.Opening.{Opening}}
use Rattle.ocfl_report.specs.{Line.{Item}, Text.{text}}
use Rattle.ocfl_report.specs.declared.further.Further.{Further}
use Rattle.ocfl_rules.specs.{Audit.{audit, total_cost}, Due.{hashed_among}, Parts.{Part, within}}
use Rattle.ocfl_rules.specs.Trail.{content_trail}
use Rattle.ocfl_rules.specs.Runs.{Limits, total_files, StaysWithin, runs, joined, IsAtLeast}
use Rattle.ocfl_cursor.specs.Cursor.{ended, new_cursor}
use Rattle.ocfl_cursor.specs.declared.limits.Limits.{Limits as MadeLimits}
use Rattle.ocfl_scrub.specs.declared.stop.ReportStop.TheVariants as halt
use Rattle.ocfl_scrub.specs.{Call.{Call, WhereTold, Writes}, Chaining.{CycleOfRunsWithin, IsMadeOf}}
use Rattle.ocfl_scrub.specs.{Running.{limits_of}, Taking.{WritesLines}}
use Rattle.ocfl_scrub.specs.{Written.{places}, Types.{CycleEnd, CycleStatus}}
use Rattle.ocfl_scrub.specs.declared.cycling.CycleStatus.TheVariants as status

-- what a cycle does on any store, by what the store and the output are before it and after it
pub record CyclesOnAnyStore {S O : Type 0} (further : Further) (contents : O → Option (List ℕ)) (before after : S) (old new : O) (limits : List MadeLimits) (ran : CycleEnd) : Type 0 where
  -- without limits there is no run
  pub none : limits ≡ [] → (ran.cursor ≡ new_cursor further) × (ran.end ≡ status.Spent) × (ran.found ≡ false) × (after ≡ before) × (new ≡ old)
  pub counted : ran.runs ≤ length limits
  pub made : 1 ≤ length limits → 1 ≤ ran.runs
  pub first : ran.cursor.cycle ≡ 1
  -- the cursor of the last run has the option of the first
  pub further_is : ran.cursor.further ≡ further
  pub runs_are : ran.runs ≡ ran.cursor.runs
  pub spent_is : ran.spent ≡ ran.cursor.spent
  pub files_are : ran.files ≡ ran.cursor.files
  pub ended_is : (ran.end ≡ status.Ended) ↔ (ran.cursor.state ≡ ended)
  pub lines : ran.end ≢ status.Stopped halt.Output → WritesLines (contents old) (contents new) ran.found

-- a cycle of a part on any store, and on one that tells its tree: runs of it with these limits
pub record CyclesOver {S O : Type 0} (further : Further) (tells : Bool) (state : S → Store) (contents : O → Option (List ℕ)) (before after : S) (old new : O) (part : Part) (limits : List MadeLimits) (ran : CycleEnd) : Type 0 where
  pub any_store : CyclesOnAnyStore further contents before after old new limits ran
  pub told : WhereTold further tells state contents before after old new (λ call. CycleOfRunsWithin call part (map limits_of limits) ran)

-- how many runs are enough for limits that are each at least so large
abbrev pub enough : List Item → ℕ → ℕ → ℕ
enough items b n = total_cost items / b + total_files items / n + 1

-- ---- the headline: if no failure was counted

-- a run wrote the lines of these items, and opened the hashed files among them, in order, and no
-- other content. It started each while what it had spent was below the budget, and the files that it
-- had started were fewer than their limit
pub record StartsBelow (limits : Limits) (run : Call) (items : List Item) : Type 0 where
  pub wrote : Writes run (text items)
  pub trail : List Opening
  pub opened : run.after.openings ≡ run.before.openings ++ trail
  pub files : content_trail run.further run.root trail ≡ hashed_among run.further run.root (places items)
  pub below : StaysWithin items limits (length items)

-- each of some runs did that with its own limits and its own items
abbrev pub EachStartsBelow : List Limits → List Call → List (List Item) → Type 0
EachStartsBelow limits [] cuts = cuts ≡ []
EachStartsBelow (l ∷ limits) (run ∷ calls) (items ∷ cuts) = StartsBelow l run items × EachStartsBelow limits calls cuts
EachStartsBelow limits (run ∷ calls) cuts = ⊥

-- While the root stays unchanged and every call succeeds, of a cycle over these items: the reports of
-- its runs, joined, are the cuts of the items by their limits. The cycle is runs, one for each cut,
-- that each start a file only while their cost is below their budget and their files are below their
-- limit. Where it has ended the reports are exactly all items, and each hashed file of theirs was
-- opened once, in order; and it has ended within as many runs as the cost by the budget and the files
-- by their limit, each rounded down, and one more
pub record Headline (call : Call) (items : List Item) (limits : List Limits) (count : ℕ) (whole : Bool) : Type 0 where
  pub trail : List Opening
  pub opened : call.after.openings ≡ call.before.openings ++ trail
  pub reports : Writes call (text (joined (runs items limits)))
  pub each_run : count ≡ length (runs items limits)
  pub calls : List Call
  pub made_of : IsMadeOf call calls
  pub starts_below : EachStartsBelow limits calls (runs items limits)
  pub all_items : whole ≡ true → Writes call (text items)
  pub opened_once : whole ≡ true → content_trail call.further call.root trail ≡ hashed_among call.further call.root (places items)
  pub ends_within : (b n : ℕ) → 1 ≤ b → 1 ≤ n → All (IsAtLeast b n) limits → enough items b n ≤ length limits → (whole ≡ true) × (count ≤ enough items b n)

abbrev pub HeadlineBy : Call → List Item → List Limits → ℕ → CycleStatus → Type 0
HeadlineBy call items limits count status.Ended = Headline call items limits count true
HeadlineBy call items limits count status.Spent = Headline call items limits count false
HeadlineBy call items limits count (status.Stopped why) = ⊤

-- the headline: the items are the whole audit
abbrev pub HeadlineOf : Call → List Limits → ℕ → CycleStatus → Type 0
HeadlineOf call limits count end = HeadlineBy call (audit call.further call.root []) limits count end

-- the headline of a part: they are what the audit has there
abbrev pub HeadlineOfPart : Call → Part → List Limits → ℕ → CycleStatus → Type 0
HeadlineOfPart call part limits count end = HeadlineBy call (within part (audit call.further call.root [])) limits count end
