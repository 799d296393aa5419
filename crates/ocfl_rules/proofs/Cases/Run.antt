-- Worked cases: runs by budgets, and what is left after a place. An audit of several cases is
-- computed once, and its runs over its items.
use Rattle.std.proofs.Common.{◌≡◌, ◌≤◌, ◌<◌, ◌⊎◌, inl, inr, ℕ, zero, suc, arith, ap, Option, List, [], ◌∷◌, ◌++◌, codes, refl, Some, None, true, false, map, replicate, take}
use Prim.Native.String.{String}
use Rattle.ocfl_tree.specs.{Place.{Text}, StorageRoot.{StorageRoot}}
use Rattle.ocfl_report.specs.{Line.{Item, found}, declared.code.Code.TheVariants.{E023, E092, E093}}
use Rattle.ocfl_report.specs.Text.{text, place_text}
use Rattle.ocfl_report.specs.declared.further.Further.TheVariants.{Nothing}
use Rattle.ocfl_inventory.specs.Note.{note, plain}
use Rattle.ocfl_digest.specs.declared.algorithm.Algorithm.TheVariants.{Sha256}
use Rattle.ocfl_rules.specs.{Audit.{audit, after, total_cost}, Trail.{inventories}}
use Rattle.ocfl_rules.specs.Runs.{Limits, cut, left, runs, joined, total_files, StaysWithin, IsAtLeast, FileLimitFits, FilesFit, of_budget, sum_of, budget_cut, budget_left, budget_runs}
use Rattle.ocfl_rules.proofs.Cases.OnLiterals.{audit_on_literals}
use Rattle.ocfl_rules.proofs.Cases.Trees.{three_files_content, three_files_listing, missing_and_right_content, missing_and_right_listing, sha512_file_listing, Case, case, AllAre, Behind, behind, behind_each, place, text_at, folder, storage_root, sha256_object, f_is_abc, key, listing, lists_f, three_files, three_objects, missing_and_right, sha512_file, abc, item, the_root, clean, right}
use Rattle.ocfl_rules.proofs.Cases.Quiet.{audit_512, audit_256}

-- the texts of the runs that these budgets make of some items
abbrev texts : List Item → List ℕ → List Text
texts items budgets = map text (runs items (map of_budget budgets))

-- and what each spends
abbrev costs : List Item → List ℕ → List ℕ
costs items budgets = map total_cost (runs items (map of_budget budgets))

-- ---- a storage root alone

items_of_a_bare_root : audit Nothing (storage_root []) [] ≡ the_root ∷ []
unfolding audit_on_literals
items_of_a_bare_root = refl

one_run_of_a_bare_root : (texts (the_root ∷ []) (1 ∷ []) ≡ codes "ok\t.\t-\n" ∷ []) × (costs (the_root ∷ []) (1 ∷ []) ≡ 0 ∷ []) × (left (the_root ∷ []) (of_budget 1) ≡ [])
one_run_of_a_bare_root = (refl, refl, refl)

-- what costs nothing takes one run, however many budgets there are
one_run_where_nothing_costs : texts (audit Nothing (storage_root (folder "x" ∷ [])) []) (1 ∷ 1 ∷ 1 ∷ []) ≡ codes "ok\t.\t-\nE073\tx\t-\n" ∷ []
unfolding audit_on_literals
one_run_where_nothing_costs = refl

-- ---- three files, of cost 4, 1 and 4

abbrev pub three_items : List Item
three_items = the_root ∷ clean "o" ∷ right "o/v1/content/a" 4 "3" ∷ right "o/v1/content/b" 1 "0" ∷ right "o/v1/content/c" 4 "3" ∷ []

pub items_of_three_files : audit Nothing three_files [] ≡ three_items
unfolding audit_on_literals
items_of_three_files = audit_256 three_files_listing three_files_content []

-- Seen to refuse: a file is started while one of the limits is not reached.
budgets_of_five : (costs three_items (replicate 4 5) ≡ 5 ∷ 4 ∷ [])
    × (texts three_items (replicate 4 5) ≡ codes "ok\t.\t-\nok\to\t-\nok\to/v1/content/a\t3\nok\to/v1/content/b\t0\n" ∷ codes "ok\to/v1/content/c\t3\n" ∷ [])
budgets_of_five = (refl, refl)

-- a file is started while less than the budget is spent, and not at the budget
budgets_of_four : (costs three_items (replicate 4 4) ≡ 4 ∷ 5 ∷ [])
    × (texts three_items (replicate 4 4) ≡ codes "ok\t.\t-\nok\to\t-\nok\to/v1/content/a\t3\n" ∷ codes "ok\to/v1/content/b\t0\nok\to/v1/content/c\t3\n" ∷ [])
budgets_of_four = (refl, refl)

-- a file larger than the budget is taken all the same
budgets_of_one : (costs three_items (replicate 4 1) ≡ 4 ∷ 1 ∷ 4 ∷ [])
    × (texts three_items (replicate 4 1) ≡ codes "ok\t.\t-\nok\to\t-\nok\to/v1/content/a\t3\n" ∷ codes "ok\to/v1/content/b\t0\n" ∷ codes "ok\to/v1/content/c\t3\n" ∷ [])
budgets_of_one = (refl, refl)

budget_of_nine : (costs three_items (replicate 4 9) ≡ 9 ∷ [])
    × (texts three_items (replicate 4 9) ≡ codes "ok\t.\t-\nok\to\t-\nok\to/v1/content/a\t3\nok\to/v1/content/b\t0\nok\to/v1/content/c\t3\n" ∷ [])
budget_of_nine = (refl, refl)

-- one more than what is spent before the last file
budget_of_six : costs three_items (replicate 4 6) ≡ 9 ∷ []
budget_of_six = refl

-- the runs, joined
abbrev joins : String → List ℕ → String → Case
joins name budgets t = case name (text (joined (runs three_items (map of_budget budgets)))) (codes t)

joined_reports : AllAre (
    joins "joined_reports_of_five" (replicate 4 5) "ok\t.\t-\nok\to\t-\nok\to/v1/content/a\t3\nok\to/v1/content/b\t0\nok\to/v1/content/c\t3\n" ∷
    joins "joined_reports_of_four" (replicate 4 4) "ok\t.\t-\nok\to\t-\nok\to/v1/content/a\t3\nok\to/v1/content/b\t0\nok\to/v1/content/c\t3\n" ∷
    joins "joined_reports_of_one" (replicate 4 1) "ok\t.\t-\nok\to\t-\nok\to/v1/content/a\t3\nok\to/v1/content/b\t0\nok\to/v1/content/c\t3\n" ∷
    joins "joined_reports_of_nine" (replicate 4 9) "ok\t.\t-\nok\to\t-\nok\to/v1/content/a\t3\nok\to/v1/content/b\t0\nok\to/v1/content/c\t3\n" ∷
    joins "budgets_that_run_out" (1 ∷ 1 ∷ []) "ok\t.\t-\nok\to\t-\nok\to/v1/content/a\t3\nok\to/v1/content/b\t0\n" ∷
    [])
joined_reports = refl

costs_of_budgets_that_run_out : costs three_items (1 ∷ 1 ∷ []) ≡ 4 ∷ 1 ∷ []
costs_of_budgets_that_run_out = refl

budgets_of_several_sizes : costs three_items (4 ∷ 1 ∷ 4 ∷ []) ≡ 4 ∷ 1 ∷ 4 ∷ []
budgets_of_several_sizes = refl

no_budgets : runs three_items [] ≡ []
no_budgets = refl

-- ---- a budget, and a limit on files

-- what each run spends under n limits, each of this budget and this number of files
abbrev costs_under : List Item → ℕ → Limits → List ℕ
costs_under items n limits = map total_cost (runs items (replicate n limits))

-- and how many files it starts
abbrev files_under : List Item → ℕ → Limits → List ℕ
files_under items n limits = map total_files (runs items (replicate n limits))

abbrev limits_of : ℕ → ℕ → Limits
limits_of budget files = record { budget = budget; files = files }

-- Seen to refuse: a file is started at the limit on files, or whatever that is; a file is
-- started while one of the limits is not reached.
one_file_a_run : (costs_under three_items 5 (limits_of 9 1) ≡ 4 ∷ 1 ∷ 4 ∷ []) × (files_under three_items 5 (limits_of 9 1) ≡ 1 ∷ 1 ∷ 1 ∷ [])
one_file_a_run = (refl, refl)

-- Seen to refuse: a file is started at the limit on files, or whatever that is.
two_files_a_run : (costs_under three_items 5 (limits_of 9 2) ≡ 5 ∷ 4 ∷ []) × (files_under three_items 5 (limits_of 9 2) ≡ 2 ∷ 1 ∷ [])
two_files_a_run = (refl, refl)

two_files_and_a_budget_of_five : costs_under three_items 5 (limits_of 5 2) ≡ 5 ∷ 4 ∷ []
two_files_and_a_budget_of_five = refl

-- the budget is spent before the limit on files is reached
two_files_and_a_budget_of_four : costs_under three_items 5 (limits_of 4 2) ≡ 4 ∷ 5 ∷ []
two_files_and_a_budget_of_four = refl

as_many_files_as_there_are : (costs_under three_items 5 (limits_of 9 3) ≡ 9 ∷ []) × (files_under three_items 5 (limits_of 9 3) ≡ 3 ∷ [])
as_many_files_as_there_are = (refl, refl)

-- ---- limits at their edges

-- limits that are just so large are at least so large, and less by one are not
at_least_just : IsAtLeast 9 3 (limits_of 9 3)
at_least_just = record { budget = omega arith; files = omega arith }

not_at_least : (IsAtLeast 9 3 (limits_of 8 3) → ⊥) × (IsAtLeast 9 3 (limits_of 9 2) → ⊥)
not_at_least = ((λ h. let m : 9 ≤ 8 = h.budget in omega (arith, m)), λ h. let m : 3 ≤ 2 = h.files in omega (arith, m))

-- a limit on files fits three files if it is three, or the budget; and not if it is less than
-- both
limits_that_fit : FileLimitFits three_items (limits_of 9 3) × FileLimitFits three_items (limits_of 2 2)
limits_that_fit = (inr (omega arith), inl (omega arith))

limit_that_does_not_fit : FileLimitFits three_items (limits_of 3 2) → ⊥
limit_that_does_not_fit h = by h
  where
    by : (3 ≤ 2) ⊎ (3 ≤ 2) → ⊥
    by (inl m) = omega (arith, m)
    by (inr m) = omega (arith, m)

-- nor does it among others
limits_that_do_not_fit : FilesFit three_items (limits_of 3 2 ∷ []) → ⊥
limits_that_do_not_fit h = limit_that_does_not_fit (h 0 (limits_of 3 2) (omega arith))

-- behind a file that spends the budget and is the last of its limit, what costs nothing is within
free_item_behind_the_limits : StaysWithin (right "f" 4 "3" ∷ the_root ∷ []) (limits_of 4 1) 2
free_item_behind_the_limits zero i before here costs = (omega arith, omega arith)
free_item_behind_the_limits (suc zero) i before here costs = let e : 0 ≡ i.cost = ap cost_in here in absurd (omega (arith, e, costs))
  where
    cost_in : Option Item → ℕ
    cost_in None = 0
    cost_in (Some j) = j.cost
free_item_behind_the_limits (suc (suc k)) i before here costs = absurd (omega (arith, before))

-- and what costs something is not
file_behind_the_limits : (StaysWithin three_items (limits_of 4 9) 4 → ⊥) × (StaysWithin three_items (limits_of 9 1) 4 → ⊥)
file_behind_the_limits = (
  (λ h. let m : 4 < 4 = (h 3 (right "o/v1/content/b" 1 "0") (omega arith) refl (omega arith)).0 in omega (arith, m)),
  λ h. let m : 1 < 1 = (h 3 (right "o/v1/content/b" 1 "0") (omega arith) refl (omega arith)).1 in omega (arith, m),
)

limits_of_a_budget : of_budget 5 ≡ limits_of 5 4611686018427387904
limits_of_a_budget = refl

sums_of_budgets : (sum_of [] ≡ 0) × (sum_of (4 ∷ 1 ∷ 4 ∷ []) ≡ 9)
sums_of_budgets = (refl, refl)

-- ---- budgets alone

-- what each run spends that looks at its budget alone
abbrev costs_alone : List Item → List ℕ → List ℕ
costs_alone items budgets = map total_cost (budget_runs items budgets)

-- the second file is larger than what the first leaves of a budget of five, and the third begins
-- where nothing is left of it
runs_of_budgets_alone : (costs_alone three_items (replicate 4 5) ≡ 5 ∷ 4 ∷ []) × (costs_alone three_items (replicate 4 6) ≡ 9 ∷ []) × (costs_alone three_items (replicate 4 1) ≡ 4 ∷ 1 ∷ 4 ∷ [])
runs_of_budgets_alone = (refl, refl, refl)

cut_by_a_budget_alone : (budget_cut three_items 4 ≡ the_root ∷ clean "o" ∷ right "o/v1/content/a" 4 "3" ∷ [])
    × (budget_left three_items 4 ≡ right "o/v1/content/b" 1 "0" ∷ right "o/v1/content/c" 4 "3" ∷ [])
cut_by_a_budget_alone = (refl, refl)

-- a cycle makes its first run on any items, and no other on none
runs_of_no_items : (budget_runs [] (5 ∷ 5 ∷ []) ≡ [] ∷ []) × (budget_runs [] [] ≡ [])
runs_of_no_items = (refl, refl)

-- ---- places of runs

-- the last place of the first run, and what it leaves
places_of_the_first_run : (map (λ i. i.place) (cut three_items (of_budget 4)) ≡ [] ∷ place "o" ∷ place "o/v1/content/a" ∷ [])
    × (map (λ i. i.place) (left three_items (of_budget 4)) ≡ place "o/v1/content/b" ∷ place "o/v1/content/c" ∷ [])
places_of_the_first_run = (refl, refl)

-- ---- after a place

abbrev pub missing_items : List Item
missing_items = the_root ∷ clean "o" ∷ item "o/v1/content/a" 0 (note E092 (codes "sha256 missing") ∷ note E093 (codes "sha1 missing") ∷ []) ∷ right "o/v1/content/b" 4 "3" ∷ []

pub items_around_a_missing_file : audit Nothing missing_and_right [] ≡ missing_items
unfolding audit_on_literals
items_around_a_missing_file = audit_256 missing_and_right_listing missing_and_right_content []

-- what is left after a place, by a budget of nine
abbrev resumes : List Item → Behind → Case
resumes items b = case b.name (text (cut (after items (Some (place b.place))) (of_budget 9))) (codes b.lines)

behind_places_of_three_files : AllAre (
    resumes three_items (behind "behind_a_head" "o" "ok\to/v1/content/a\t3\nok\to/v1/content/b\t0\nok\to/v1/content/c\t3\n") ∷
    resumes three_items (behind "behind_a_place_that_is_not_there" "o/v1/content/aa" "ok\to/v1/content/b\t0\nok\to/v1/content/c\t3\n") ∷
    resumes three_items (behind "behind_the_last_place" "o/v1/content/c" "") ∷
    [])
behind_places_of_three_files = refl

behind_places_around_a_missing_file : AllAre (map (resumes missing_items) behind_each)
behind_places_around_a_missing_file = refl

-- all of it, as for a new cycle
behind_no_place : cut (after three_items None) (of_budget 9) ≡ three_items
behind_no_place = refl

-- ---- what costs nothing is taken although the budget is spent

abbrev listed_and_unlisted_listing : Text
listed_and_unlisted_listing = listing lists_f

abbrev listed_and_unlisted_content : StorageRoot
listed_and_unlisted_content = f_is_abc ++ text_at "o/v1/content/z" "abc" ∷ []

abbrev listed_and_unlisted : StorageRoot
listed_and_unlisted = sha256_object listed_and_unlisted_listing listed_and_unlisted_content

abbrev unlisted_items : List Item
unlisted_items = the_root ∷ clean "o" ∷ right "o/v1/content/f" 4 "3" ∷ item "o/v1/content/z" 0 (plain E023 ∷ []) ∷ []

items_beside_an_unlisted_file : audit Nothing listed_and_unlisted [] ≡ unlisted_items
unfolding audit_on_literals
items_beside_an_unlisted_file = audit_256 listed_and_unlisted_listing listed_and_unlisted_content []

-- Seen to refuse: free items wait for the budget.
unlisted_file_behind_the_budget : (texts unlisted_items (4 ∷ 4 ∷ []) ≡ codes "ok\t.\t-\nok\to\t-\nok\to/v1/content/f\t3\nE023\to/v1/content/z\t-\n" ∷ [])
    × (costs unlisted_items (4 ∷ 4 ∷ []) ≡ 4 ∷ []) × (left unlisted_items (of_budget 4) ≡ [])
unlisted_file_behind_the_budget = (refl, refl, refl)

-- nor is it one of the files that a run may start
-- Seen to refuse: free items wait for the limit on files.
unlisted_file_behind_the_file_limit :
    (map text (runs unlisted_items (replicate 2 (limits_of 9 1))) ≡ codes "ok\t.\t-\nok\to\t-\nok\to/v1/content/f\t3\nE023\to/v1/content/z\t-\n" ∷ [])
    × (files_under unlisted_items 2 (limits_of 9 1) ≡ 1 ∷ []) × (left unlisted_items (limits_of 9 1) ≡ [])
unlisted_file_behind_the_file_limit = (refl, refl, refl)

-- a run has a finding if its own items have one
finding_of_one_run : map found (runs
    (audit Nothing (sha256_object (listing (key (abc Sha256) "[\"v1/content/a\",\"v1/content/c\"]" ∷ []))
    (text_at "o/v1/content/a" "abc" ∷ text_at "o/v1/content/b" "" ∷ text_at "o/v1/content/c" "abc" ∷ [])) []) (of_budget 1 ∷ of_budget 1 ∷ [])) ≡ true ∷ false ∷ []
unfolding audit_on_literals
finding_of_one_run = refl

-- ---- a slash before a dash

abbrev pub slash_and_dash_listing : Text
slash_and_dash_listing = listing (key (abc Sha256) "[\"v1/content/a-b\",\"v1/content/a/b\"]" ∷ [])

abbrev pub slash_and_dash_content : StorageRoot
slash_and_dash_content = text_at "o/v1/content/a-b" "abc" ∷ folder "o/v1/content/a" ∷ text_at "o/v1/content/a/b" "abc" ∷ []

abbrev pub slash_and_dash : StorageRoot
slash_and_dash = sha256_object slash_and_dash_listing slash_and_dash_content

abbrev pub slash_items : List Item
slash_items = the_root ∷ clean "o" ∷ right "o/v1/content/a/b" 4 "3" ∷ right "o/v1/content/a-b" 4 "3" ∷ []

pub items_of_slash_and_dash : audit Nothing slash_and_dash [] ≡ slash_items
unfolding audit_on_literals
items_of_slash_and_dash = audit_256 slash_and_dash_listing slash_and_dash_content []

slash_before_dash_in_runs : texts slash_items (1 ∷ 1 ∷ 1 ∷ []) ≡ codes "ok\t.\t-\nok\to\t-\nok\to/v1/content/a/b\t3\n" ∷ codes "ok\to/v1/content/a-b\t3\n" ∷ []
slash_before_dash_in_runs = refl

-- the second run, from where the first one ended
behind_the_slash : map (λ i. i.place) (after slash_items (Some (place "o/v1/content/a/b"))) ≡ place "o/v1/content/a-b" ∷ []
behind_the_slash = refl

-- ---- three objects

-- a run goes on to the head of the next object
-- Seen to refuse: free items wait for the budget.
runs_over_three_objects : texts (audit Nothing three_objects []) (replicate 4 1) ≡ codes "ok\t.\t-\nok\to1\t-\nok\to1/v1/content/f\t3\nok\to2\t-\n" ∷ codes
    "ok\to2/v1/content/f\t3\nok\to3\t-\n" ∷ codes "ok\to3/v1/content/f\t3\n" ∷ []
unfolding audit_on_literals
runs_over_three_objects = refl

inventories_of_three_objects : inventories three_objects ≡ place "o1/inventory.json" ∷ place "o2/inventory.json" ∷ place "o3/inventory.json" ∷ []
unfolding audit_on_literals
inventories_of_three_objects = refl

-- an object of unknown version reads none
inventories_of_a_stopped_object : inventories (storage_root (folder "o" ∷ text_at "o/0=ocfl_object_2.0" "" ∷ text_at "o/inventory.json" "{}" ∷ [])) ≡ []
unfolding audit_on_literals
inventories_of_a_stopped_object = refl

-- ---- what a stop leaves

abbrev one_items : List Item
one_items = the_root ∷ clean "o" ∷ right "o/v1/content/f" 4 "3" ∷ []

items_of_one_file : audit Nothing sha512_file [] ≡ one_items
unfolding audit_on_literals
items_of_one_file = audit_512 sha512_file_listing f_is_abc []

-- an output that takes 10 bytes
ten_bytes_of_the_report : take 10 (text one_items) ≡ codes "ok\t.\t-\nok\t"
ten_bytes_of_the_report = refl

-- the only item that went out whole is the root
behind_the_root : text (cut (after one_items (Some [])) (of_budget 9)) ≡ codes "ok\to\t-\nok\to/v1/content/f\t3\n"
behind_the_root = refl

-- if the object can't be listed
report_before_the_object : text (take 1 one_items) ≡ codes "ok\t.\t-\n"
report_before_the_object = refl

place_of_a_stop : (place_text (place "o") ≡ codes "o") × (place_text (place "o/inventory.json") ≡ codes "o/inventory.json")
place_of_a_stop = (refl, refl)
