-- The audit of a storage root: each place that has lines, in order.
use Rattle.std.specs.Prelude.{◌≡◌, ◌≢◌, ◌↔◌, ℕ, ◌+◌, List, [], ◌∷◌, ◌++◌, Bool, not, if◌then◌else◌, Option, Some, None, map, filter, flat_map}
use Rattle.std.specs.{Ordering.{is_lt}, List.{AllByRecursion}}
use Rattle.ocfl_tree.specs.Place.{Place, place_cmp, place_eq}
use Rattle.ocfl_tree.specs.{Ascending.{ascending, IsAscending, IsAmong}, StorageRoot.{StorageRoot}}
use Rattle.ocfl_report.specs.{Line.{Item}, declared.further.Further.{Further}}
use Rattle.ocfl_inventory.specs.{Note.{lines_at}, Table.{Table, paths_of}}
use Rattle.ocfl_rules.specs.Inventories.{notes, cost}
use Rattle.ocfl_rules.specs.Zone.{table_at}
use Rattle.ocfl_rules.specs.Lines.{is_empty}

-- the content files that could not be read, each with the bytes that it gave
abbrev pub Unread : Type 0
Unread = List (Place × ℕ)

abbrev pub given_by : Unread → Place → Option ℕ
given_by [] p = None
given_by (e ∷ unread) p = if place_eq e.0 p then Some e.1 else given_by unread p

abbrev pub item_of : Further → StorageRoot → Unread → Place → Item
item_of further root unread p = record {
  place = p;
  lines = lines_at p (notes further root (given_by unread p) p);
  cost = cost further root (given_by unread p) p;
}

-- the places that an object's table names
abbrev pub named_places : StorageRoot → Place → List Place
named_places root o = places_in (table_at root o)
  where
    places_in : Option Table → List Place
    places_in None = []
    places_in (Some t) = map (λ q. o ++ q) (paths_of t)

-- all places that may have lines: the root, each place of the tree, and each that a table names
abbrev pub candidates : StorageRoot → List Place
candidates root = [] ∷ map (λ e. e.0) root ++ flat_map (λ e. named_places root e.0) root

abbrev pub has_lines : Item → Bool
has_lines i = not (is_empty i.lines)

-- the audit: each place that has lines, in order
abbrev pub audit : Further → StorageRoot → Unread → List Item
audit further root unread = filter has_lines (map (item_of further root unread) (ascending place_cmp (candidates root)))

abbrev pub total_cost : List Item → ℕ
total_cost [] = 0
total_cost (i ∷ items) = i.cost + total_cost items

-- the same said without a computation: the items ascend, are those of their places, and stand for
-- just the places with lines
pub record IsAudit (further : Further) (root : StorageRoot) (unread : Unread) (items : List Item) : Type 0 where
  pub ascends : IsAscending place_cmp (map (λ i. i.place) items)
  pub each : AllByRecursion (λ i. i ≡ item_of further root unread i.place) items
  pub exactly : (p : Place) → IsAmong (map (λ i. i.place) items) p ↔ (notes further root (given_by unread p) p ≢ [])

-- the items whose place is above p, whether or not p is one; all of them for the start
abbrev pub after : List Item → Option Place → List Item
after items None = items
after items (Some p) = filter (λ i. is_lt (place_cmp p i.place)) items
