-- Cuts of a report as cuts of items.
use Rattle.std.proofs.Common.{◌≡◌, ℕ, ◌+◌, List, [], ◌∷◌, refl, ap, true, false, Bool, map}
use Rattle.std.specs.Prelude.{cond, ◌==◌, ◌||◌, nat_lt}
use Rattle.ocfl_tree.specs.Place.{Place}
use Rattle.ocfl_report.specs.Line.{Line, Item}
use Rattle.ocfl_separators.specs.Splits.{item_costs, as_item, reported, cuts, cuts_from}
use Rattle.ocfl_separators.specs.declared.costs.ItemCost.{ItemCost}

abbrev pub item_cuts : ℕ → ℕ → List Item → List Place
item_cuts b s [] = []
item_cuts b s (i ∷ items) = cond (i.cost == 0 || nat_lt s b) (item_cuts b (s + i.cost) items) (i.place ∷ item_cuts b i.cost items)

same_cuts : (b s : ℕ) (ts : List ItemCost) → cuts_from b s ts ≡ item_cuts b s (map as_item ts)
same_cuts b s [] = refl
same_cuts b s (t ∷ ts) = by (t.cost == 0 || nat_lt s b) (same_cuts b (s + t.cost) ts) (same_cuts b t.cost ts)
  where
    by : (c : Bool) → cuts_from b (s + t.cost) ts ≡ item_cuts b (s + t.cost) (map as_item ts) → cuts_from b t.cost ts ≡ item_cuts b t.cost (map as_item ts)
        → cond c (cuts_from b (s + t.cost) ts) (t.place ∷ cuts_from b t.cost ts) ≡ cond c (item_cuts b (s + t.cost) (map as_item ts)) (t.place ∷ item_cuts b t.cost (map as_item ts))
    by true e f = e
    by false e f = ap (λ l. t.place ∷ l) f

pub cuts_of_items : (b : ℕ) (ls : List Line) → cuts b ls ≡ item_cuts b 0 (reported ls)
cuts_of_items b ls = same_cuts b 0 (item_costs ls)
