-- Worked cases: what runs are paid for, and what they and the cycles of them take of three files,
-- which cost 4, 1 and 4 (docs/RULES.md).
use Rattle.std.proofs.Common.{◌≡◌, ◌<◌, ◌≤◌, ◌^◌, ◌+◌, ℕ, refl, arith, List, [], ◌∷◌, Some, None, map, replicate, length}
use Rattle.ocfl_tree.specs.Place.{Place}
use Rattle.ocfl_report.specs.declared.further.Further.TheVariants.{Nothing}
use Rattle.ocfl_rules.specs.Parts.{Part, whole}
use Rattle.ocfl_rules.specs.Runs.{Limits, of_budget, sum_of}
use Rattle.ocfl_rules.proofs.Cases.Run.{three_items, items_of_three_files}
use Rattle.ocfl_rules.proofs.Cases.Trees.{place, three_files, right}
use Rattle.ocfl_cursor.specs.Cursor.{Cursor, start, behind, ended}
use Rattle.ocfl_cursor.specs.declared.limits.Limits.{Limits as MadeLimits}
use Rattle.ocfl_scrub.specs.Call.{Call}
use Rattle.ocfl_scrub.specs.Running.{limits_of, begun, ArePaid, IsPaid, taken_in}
use Rattle.ocfl_scrub.specs.{Starting.{items_in}, Written.{places}}
use Rattle.ocfl_scrub.specs.Cycling.{StartsBelow, EachStartsBelow, HeadlineOfPart}
use Rattle.ocfl_scrub.specs.Together.{runs_in, all_in, first_in}
use Rattle.ocfl_scrub.specs.declared.cycling.CycleStatus.TheVariants as status

abbrev limited : ℕ → ℕ → Limits
limited budget files = record { budget = budget; files = files }

-- ---- limits and cursors

limits_of_five_and_two : (limits : MadeLimits) → limits.budget ≡ 5 → limits.files ≡ 2 → (limits_of limits).files ≡ 2
limits_of_five_and_two limits budget files = files

abbrev third_cycle : Cursor
third_cycle = record { cycle = 3; runs = 2; spent = 9; files = 3; further = Nothing; state = behind (place "o") }

-- a run begins the next cycle only where the last one has ended
cursors_of_begun_runs : (begun third_cycle ≡ third_cycle)
    × (begun (record third_cycle { state = ended }) ≡ record { cycle = 4; runs = 0; spent = 0; files = 0; further = Nothing; state = start })
cursors_of_begun_runs = (refl, refl)

-- ---- what is paid

-- a file of 2^62 bytes costs one more; there is none that costs more
largest_file : ArePaid (limited 1 1) 0 0 (4611686018427387905 ∷ []) × (ArePaid (limited 1 1) 0 0 (4611686018427387906 ∷ []) → ⊥)
largest_file = ((omega arith, (omega arith, (omega arith, (omega arith, tt)))), λ h. let m : 4611686018427387906 ≤ 2 ^ 62 + 1 = h.1.0 in omega (arith, m))

-- two files of cost 4 and 1 are paid by a budget of five, and no files cost nothing
two_files_are_paid : IsPaid (limited 5 2) 5 2
two_files_are_paid = record {
  costs = 4 ∷ 1 ∷ [];
  paid = (omega arith, (omega arith, (omega arith, (omega arith, (omega arith, (omega arith, (omega arith, (omega arith, tt))))))));
  spent_is = refl;
  files_is = refl;
}

nothing_is_spent_on_no_files : IsPaid (limited 5 2) 4 0 → ⊥
nothing_is_spent_on_no_files h = by h.costs h.spent_is h.files_is
  where
    by : (costs : List ℕ) → 4 ≡ sum_of costs → 0 ≡ length costs → ⊥
    by [] spent files = let m : 4 ≡ 0 = spent in omega (arith, m)
    by (c ∷ costs) spent files = cc

-- ---- what a run takes

abbrev first_three : List Place
first_three = [] ∷ place "o" ∷ place "o/v1/content/a" ∷ []

-- a budget of four is spent with the first file
taken_by_a_budget_of_four : places (taken_in Nothing three_files [] whole None (of_budget 4)) ≡ first_three
taken_by_a_budget_of_four = rw items_of_three_files refl

items_above_the_first_file : places (items_in Nothing three_files [] whole (Some (place "o/v1/content/a"))) ≡ place "o/v1/content/b" ∷ place "o/v1/content/c" ∷ []
items_above_the_first_file = rw items_of_three_files refl

-- ---- what the runs of a cycle take

two_runs_of_three_files : map places (runs_in Nothing three_files [] whole (replicate 4 (of_budget 4))) ≡ first_three ∷ (place "o/v1/content/b" ∷ place "o/v1/content/c" ∷ []) ∷ []
two_runs_of_three_files = rw items_of_three_files refl

-- one budget is not enough for all
all_of_one_run : places (all_in Nothing three_files [] whole (of_budget 4 ∷ [])) ≡ first_three
all_of_one_run = rw items_of_three_files refl

first_of_two_runs : places (first_in Nothing three_files [] whole (replicate 4 (of_budget 4)) 1) ≡ first_three
first_of_two_runs = rw items_of_three_files refl

-- ---- the headline

-- under a budget of four no run takes all: 4 were spent when it would start the second file
a_run_does_not_start_all_three : (call : Call) → StartsBelow (limited 4 9) call three_items → ⊥
a_run_does_not_start_all_three call h =
    let m : 4 < 4 = (h.below 3 (right "o/v1/content/b" 1 "0") (omega arith) refl (omega arith)).0 in omega (arith, m)

a_run_of_a_cycle_does_not_start_all_three : (call : Call) → EachStartsBelow (limited 4 9 ∷ []) (call ∷ []) (three_items ∷ []) → ⊥
a_run_of_a_cycle_does_not_start_all_three call h = a_run_does_not_start_all_three call h.0

-- without limits a cycle of a part makes no run
no_run_without_limits : (call : Call) (part : Part) → HeadlineOfPart call part [] 1 status.Ended → ⊥
no_run_without_limits call part h = let m : 1 ≡ 0 = h.each_run in omega (arith, m)
