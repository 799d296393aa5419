-- Where runs of items begin, and how they pass a budget.
use Rattle.std.specs.Prelude.{◌≡◌, ◌<◌, ◌≤◌, ◌+◌, ℕ, List, [], ◌∷◌, ◌++◌}
use Rattle.ocfl_tree.specs.Place.{Place}
use Rattle.ocfl_report.specs.Line.{Item}
use Rattle.ocfl_rules.specs.Audit.{total_cost}

-- the place of the first item of each run that takes any
abbrev pub first_places : List (List Item) → List Place
first_places [] = []
first_places ([] ∷ cuts) = first_places cuts
first_places ((i ∷ items) ∷ cuts) = i.place ∷ first_places cuts

-- items cost at least the budget, and pass it by less than their last file
pub record PassesJust (budget : ℕ) (items : List Item) : Type 0 where
  pub before : List Item
  pub file : Item
  pub after : List Item
  pub are : items ≡ before ++ file ∷ after
  pub free : total_cost after ≡ 0
  pub enough : budget ≤ total_cost items
  pub overrun : total_cost items < budget + file.cost
