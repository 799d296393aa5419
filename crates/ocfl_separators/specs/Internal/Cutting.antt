-- How far a report is cut, after some of its lines.
use Rattle.std.specs.Prelude.{◌≡◌, ℕ, ◌≤◌, ◌<◌, ◌↔◌, List, [], ◌∷◌, ◌++◌, length, All, Option, Some, None, ⊤}
use Rattle.ocfl_tree.specs.Place.{Text, Place}
use Rattle.ocfl_report.specs.{Line.{Line}, Text.{IsLineText}}
use Rattle.ocfl_separators.specs.{Parts.{max_separators}, Separators.{AreSeparators}}
use Rattle.ocfl_separators.specs.Splits.{HasText, AreInOrder, items_from, cuts_from, cuts}
use Rattle.ocfl_separators.specs.{declared.costs.ItemCost.{ItemCost}, declared.splitting.SplitStop.{SplitStop}}
use Rattle.ocfl_separators.specs.declared.splitting.SplitStop.TheVariants.{Line as BadLine, Many, Read, Memory}

-- the place of the item that was begun
abbrev pub last_place : Option ItemCost → Option Place
last_place None = None
last_place (Some i) = Some i.place

-- the separators so far ascend, and the item that was begun is above them
abbrev pub AreBelow : List Place → Option ItemCost → Type 0
AreBelow ps None = ps ≡ []
AreBelow ps (Some i) = AreSeparators (ps ++ i.place ∷ [])

-- after these lines there are these separators, the part has spent this much, and this item was
-- begun. What further lines make of it is what they make of all
pub record IsCutSoFar (budget : ℕ) (done : List Line) (ps : List Place) (spent : ℕ) (item : Option ItemCost) : Type 0 where
  pub texts : All HasText done
  pub order : (more : List Line) → AreInOrder (last_place item) more ↔ AreInOrder None (done ++ more)
  pub cuts : (more : List Line) → cuts budget (done ++ more) ≡ ps ++ cuts_from budget spent (items_from item more)
  pub below : AreBelow ps item
  pub few : length ps ≤ max_separators

-- why a line was not taken: it is not the text of a line that may follow, or the item before it
-- makes one separator too many
abbrev pub TakesNot : ℕ → List Line → ℕ → Text → SplitStop → Type 0
TakesNot budget done number text (BadLine n) = (n ≡ number) × ((l : Line) → IsLineText text l → AreInOrder None (done ++ l ∷ []) → ⊥)
TakesNot budget done number text Many = max_separators < length (cuts budget done)
TakesNot budget done number text Read = ⊤
TakesNot budget done number text Memory = ⊤

-- the same of a line at this place
abbrev pub TakesNotPlace : ℕ → List Line → ℕ → Place → SplitStop → Type 0
TakesNotPlace budget done number p (BadLine n) = (n ≡ number) × ((l : Line) → l.place ≡ p → AreInOrder None (done ++ l ∷ []) → ⊥)
TakesNotPlace budget done number p Many = max_separators < length (cuts budget done)
TakesNotPlace budget done number p Read = ⊤
TakesNotPlace budget done number p Memory = ⊤

-- why there is no end: the last item makes one separator too many
abbrev pub StopsAtEnd : ℕ → List Line → SplitStop → Type 0
StopsAtEnd budget done (BadLine n) = ⊥
StopsAtEnd budget done Many = max_separators < length (cuts budget done)
StopsAtEnd budget done Read = ⊤
StopsAtEnd budget done Memory = ⊤
