-- What was written of some items.
use Rattle.std.specs.Prelude.{◌≡◌, ℕ, List, ◌++◌, Bool, Option, map, take}
use Rattle.std.specs.{Io.KnownBytes.{Appends}, List.{last_or}}
use Rattle.ocfl_tree.specs.Place.{Text, Place}
use Rattle.ocfl_report.specs.{Line.{Item, found}, Text.{text}}
use Rattle.ocfl_rules.specs.{Audit.{total_cost}, Runs.{total_files}}
use Rattle.ocfl_item.specs.{Looking.{IsFront}}
use Rattle.ocfl_scrub.specs.Types.{ReportStop}
use Rattle.ocfl_scrub.specs.Taking.{PartOf}

abbrev pub places : List Item → List Place
places items = map (λ i. i.place) items

-- what items cost, how many of them are files that were read, and whether a line of one is a
-- finding
pub record Figures (items : List Item) (spent files : ℕ) (finding : Bool) : Type 0 where
  pub spent_is : spent ≡ total_cost items
  pub files_is : files ≡ total_files items
  pub found_is : finding ≡ found items

-- the first of some items went out whole, the last of those at last, and of the next, which was
-- begun or not, at most a proper beginning
pub record StopsWithin (items : List Item) (old new : Option (List ℕ)) (from last : Option Place) (why : ReportStop) : Type 0 where
  pub whole : List Item
  pub others : List Item
  pub items_are : items ≡ whole ++ others
  pub begun : List Place
  pub one : IsFront begun (places (take 1 others))
  pub part : Text
  pub wrote : Appends old new (text whole ++ part)
  pub part_of : PartOf why (text (take 1 others)) part
  pub last_is : last ≡ last_or from (places whole)
