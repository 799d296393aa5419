-- Where a report is cut into parts of about one cost, and its items as runs take them.
use Rattle.std.specs.Prelude.{◌≡◌, ◌≢◌, ℕ, ◌+◌, ◌≤◌, ◌<◌, ◌==◌, ◌||◌, nat_lt, List, [], ◌∷◌, ◌++◌, length, All, if◌then◌else◌, Option, Some, None, map, ⊤}
use Rattle.std.specs.{Str.{IsUtf8}, declared.cmp.Ordering.TheVariants.{Greater}}
use Rattle.ocfl_tree.specs.{Place.{Text, Place, place_cmp, place_eq}, Name.{IsPlace}}
use Rattle.ocfl_report.specs.{Line.{Line, Item}, Text.{line_text, lines_text}}
use Rattle.ocfl_separators.specs.{Parts.{max_separators}, Costs.{line_cost, item_cost}}
use Rattle.ocfl_separators.specs.declared.costs.ItemCost.{ItemCost}

-- ---- items

-- lines of one place that follow one another are one item, which costs what they say together. The
-- first item may have been begun
abbrev pub items_from : Option ItemCost → List Line → List ItemCost
items_from None [] = []
items_from None (l ∷ ls) = items_from (Some (item_cost l)) ls
items_from (Some i) [] = i ∷ []
items_from (Some i) (l ∷ ls) =
    if place_eq i.place l.place then items_from (Some (record { place = i.place; cost = i.cost + line_cost l.code l.detail })) ls else i ∷ items_from (Some (item_cost l)) ls

abbrev pub item_costs : List Line → List ItemCost
item_costs ls = items_from None ls

-- the same as items that a run could take, whose lines do not count here
abbrev pub as_item : ItemCost → Item
as_item t = record { place = t.place; lines = []; cost = t.cost }

abbrev pub reported : List Line → List Item
reported ls = map as_item (item_costs ls)

-- ---- cuts

-- an item that costs nothing stays in its part, and so does another while the part has spent less
-- than the budget. Else it begins the next part
abbrev pub cuts_from : ℕ → ℕ → List ItemCost → List Place
cuts_from budget spent [] = []
cuts_from budget spent (i ∷ items) = if i.cost == 0 || nat_lt spent budget then cuts_from budget (spent + i.cost) items else i.place ∷ cuts_from budget i.cost items

-- the first places of all parts but the first
abbrev pub cuts : ℕ → List Line → List Place
cuts budget ls = cuts_from budget 0 (item_costs ls)

-- ---- reports

-- a line that has a text: its place has names, and its detail is UTF-8
pub record HasText (l : Line) : Type 0 where
  pub place : IsPlace l.place
  pub detail : IsUtf8 l.detail

-- the place before is not greater
abbrev pub IsNotLess : Option Place → Place → Type 0
IsNotLess None p = ⊤
IsNotLess (Some q) p = place_cmp q p ≢ Greater

-- no place is less than the one before
abbrev pub AreInOrder : Option Place → List Line → Type 0
AreInOrder last [] = ⊤
AreInOrder last (l ∷ ls) = IsNotLess last l.place × AreInOrder (Some l.place) ls

-- lines that a report may have
pub record AreLines (ls : List Line) : Type 0 where
  pub texts : All HasText ls
  pub order : AreInOrder None ls

-- ---- what is read of a report

-- the bytes are those of a report, and these places cut it
pub record IsSplit (budget : ℕ) (b : Text) (ps : List Place) : Type 0 where
  pub lines : List Line
  pub are : AreLines lines
  pub is : b ≡ lines_text lines
  pub cuts : ps ≡ cuts budget lines
  pub few : length ps ≤ max_separators

-- the lines before this one are those of a report, and this one is not the line of one more: it is
-- no line with its line feed, or its place is less than the one before
pub record IsBadReportLine (b : Text) (n : ℕ) : Type 0 where
  pub before : List Line
  pub rest : Text
  pub are : AreLines before
  pub is : b ≡ lines_text before ++ rest
  pub more : rest ≢ []
  pub number : n ≡ length before + 1
  pub bad : (l : Line) (after : Text) → AreLines (before ++ l ∷ []) → rest ≢ line_text l ++ after

-- the bytes begin with lines that more places cut than there may be
pub record HasManyCuts (budget : ℕ) (b : Text) : Type 0 where
  pub before : List Line
  pub rest : Text
  pub are : AreLines before
  pub is : b ≡ lines_text before ++ rest
  pub many : max_separators < length (cuts budget before)
