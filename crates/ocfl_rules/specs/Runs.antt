-- Cutting the audit into runs by limits: how much a run may spend, and how many files it may start.
use Rattle.std.specs.Prelude.{◌≡◌, ◌⊎◌, ℕ, suc, ◌+◌, ◌^◌, ◌<◌, ◌≤◌, ◌==◌, ◌||◌, ◌&&◌, nat_lt, List, [], ◌∷◌, Bool, length, take, drop, if◌then◌else◌, Some, All, flat_map, slice_get}
use Rattle.ocfl_report.specs.Line.{Item}
use Rattle.ocfl_rules.specs.Audit.{total_cost}

-- the limits of a run
pub record Limits : Type 0 where
  pub budget : ℕ
  pub files : ℕ

-- an item that costs something is one file, and another is none
abbrev pub files_of : ℕ → ℕ
files_of cost = if cost == 0 then 0 else 1

abbrev pub total_files : List Item → ℕ
total_files [] = 0
total_files (i ∷ items) = files_of i.cost + total_files items

-- an item that costs nothing is always taken, and another only while less than the budget is spent
-- and fewer files than their limit are started
abbrev pub may_take : Limits → ℕ → ℕ → ℕ → Bool
may_take limits spent files cost = cost == 0 || (nat_lt spent limits.budget && nat_lt files limits.files)

-- how many items a run takes that has spent this much and started this many files
abbrev pub cut_len : Limits → ℕ → ℕ → List Item → ℕ
cut_len limits spent files [] = 0
cut_len limits spent files (i ∷ items) = if may_take limits spent files i.cost then suc (cut_len limits (spent + i.cost) (files + files_of i.cost) items) else 0

abbrev pub cut : List Item → Limits → List Item
cut items limits = take (cut_len limits 0 0 items) items

abbrev pub left : List Item → Limits → List Item
left items limits = drop (cut_len limits 0 0 items) items

-- before each hashed item among the first n the costs sum to less than the budget, and the hashed
-- items are fewer than their limit
abbrev pub StaysWithin : List Item → Limits → ℕ → Type 0
StaysWithin items limits n = (k : ℕ) (i : Item) → k < n → slice_get items k ≡ Some i → 0 < i.cost
    → (total_cost (take k items) < limits.budget) × (total_files (take k items) < limits.files)

-- n is the greatest such number
pub record IsCut (items : List Item) (limits : Limits) (n : ℕ) : Type 0 where
  pub within : StaysWithin items limits n
  pub fits : n ≤ length items
  pub greatest : (m : ℕ) → m ≤ length items → StaysWithin items limits m → m ≤ n

-- the cuts of the successive limits, until nothing is left. A cycle makes its first run on any
-- items, and a further one only if items are left
abbrev pub runs_after : List Limits → List Item → List (List Item)
runs_after [] items = []
runs_after (l ∷ limits) [] = []
runs_after (l ∷ limits) (i ∷ items) = cut (i ∷ items) l ∷ runs_after limits (left (i ∷ items) l)

abbrev pub runs : List Item → List Limits → List (List Item)
runs items [] = []
runs items (l ∷ limits) = cut items l ∷ runs_after limits (left items l)

-- what the runs take together
abbrev pub joined : List (List Item) → List Item
joined cuts = flat_map (λ c. c) cuts

-- at least the budget b and n files
pub record IsAtLeast (b n : ℕ) (limits : Limits) : Type 0 where
  pub budget : b ≤ limits.budget
  pub files : n ≤ limits.files

-- ---- budgets alone

-- a limit on files that ends no run of these items: it is at least the budget, since each file
-- costs something, or at least the number of files
abbrev pub FileLimitFits : List Item → Limits → Type 0
FileLimitFits items l = (l.budget ≤ l.files) ⊎ (total_files items ≤ l.files)

abbrev pub FilesFit : List Item → List Limits → Type 0
FilesFit items limits = All (FileLimitFits items) limits

-- a run that is given a budget alone may start 2^62 files
abbrev pub of_budget : ℕ → Limits
of_budget budget = record { budget = budget; files = 2 ^ 62 }

abbrev pub sum_of : List ℕ → ℕ
sum_of [] = 0
sum_of (b ∷ bs) = b + sum_of bs

-- how many items a run takes that looks at its budget alone and has spent this much
abbrev pub budget_len : ℕ → ℕ → List Item → ℕ
budget_len budget spent [] = 0
budget_len budget spent (i ∷ items) = if i.cost == 0 || nat_lt spent budget then suc (budget_len budget (spent + i.cost) items) else 0

abbrev pub budget_cut : List Item → ℕ → List Item
budget_cut items budget = take (budget_len budget 0 items) items

abbrev pub budget_left : List Item → ℕ → List Item
budget_left items budget = drop (budget_len budget 0 items) items

-- the runs of such cuts
abbrev pub budget_runs_after : List ℕ → List Item → List (List Item)
budget_runs_after [] items = []
budget_runs_after (b ∷ budgets) [] = []
budget_runs_after (b ∷ budgets) (i ∷ items) = budget_cut (i ∷ items) b ∷ budget_runs_after budgets (budget_left (i ∷ items) b)

abbrev pub budget_runs : List Item → List ℕ → List (List Item)
budget_runs items [] = []
budget_runs items (b ∷ budgets) = budget_cut items b ∷ budget_runs_after budgets (budget_left items b)
