-- What an audit opens and lists ascends.
use Rattle.std.proofs.Common.{◌≡◌, ◌≢◌, ◌↔◌, List, [], ◌∷◌, refl, true, Option, None, not}
use Rattle.ocfl_tree.specs.{Place.{Place, place_cmp}, Ascending.{ascending, IsAscending, IsAmong}}
use Rattle.ocfl_tree.specs.StorageRoot.{StorageRoot}
use Rattle.ocfl_tree.proofs.Orders.{place_cmp_exact, ascends_filter, among_ascending, among_filter, among_from_filter}
use Rattle.ocfl_inventory.specs.Note.{Note}
use Rattle.ocfl_report.specs.declared.further.Further.{Further}
use Rattle.ocfl_rules.specs.Audit.{candidates}
use Rattle.ocfl_rules.specs.Between.{looked_between, read_between}
use Rattle.ocfl_rules.specs.Due.{item_places, hashed_among}
use Rattle.ocfl_rules.specs.Lines.{is_empty}
use Rattle.ocfl_rules.specs.Inventories.{is_hashed, notes}
use Rattle.ocfl_rules.proofs.FurtherLaws.{notes_candidate}
use Rattle.ocfl_rules.proofs.BetweenLaws.{between_ascends, directories_ascend, objects_ascend}
use Rattle.ocfl_rules.proofs.PartLaws.{items_ascend}
use Rattle.ocfl_rules.proofs.InventoryLaws.{hashed_lines}

pub hashed_ascend : (further : Further) (root : StorageRoot) → IsAscending place_cmp (hashed_among further root (item_places further root))
unfolding hashed_among
hashed_ascend further root = ascends_filter place_cmp (is_hashed further root) (item_places further root) (items_ascend further root)

some_notes : (ns : List Note) → ns ≢ [] → not (is_empty ns) ≡ true
some_notes [] h = absurd (h refl)
some_notes (n ∷ ns) h = refl

pub item_among : (further : Further) (root : StorageRoot) (p : Place) → notes further root None p ≢ [] → IsAmong (item_places further root) p
unfolding item_places
item_among further root p some =
    among_filter (λ q. not (is_empty (notes further root None q))) (ascending place_cmp (candidates root)) p
    ((among_ascending place_cmp_exact (candidates root) p).0 (notes_candidate further root None p some)) (some_notes (notes further root None p) some)

pub hashed_all : (further : Further) (root : StorageRoot) (p : Place) → (is_hashed further root p ≡ true) ↔ IsAmong (hashed_among further root (item_places further root)) p
unfolding hashed_among
hashed_all further root p = (
  λ h. among_filter (is_hashed further root) (item_places further root) p (item_among further root p (hashed_lines further root None p h)) h,
  λ i. (among_from_filter (is_hashed further root) (item_places further root) p i).1,
)

pub looked_ascend : (root : StorageRoot) (from to : Option Place) → IsAscending place_cmp (looked_between root from to)
unfolding looked_between
looked_ascend root from to = between_ascends _ (directories_ascend root) from to

pub read_ascend : (root : StorageRoot) (from to : Option Place) → IsAscending place_cmp (read_between root from to)
unfolding read_between
read_ascend root from to = between_ascends _ (objects_ascend root) from to
