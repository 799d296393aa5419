-- The audit by its places: which places have lines does not depend on what could be read; what is
-- said there does.
use Rattle.std.specs.{Prelude.{List, not, Option, Some, None, map, filter}, Ordering.{is_lt}}
use Rattle.ocfl_tree.specs.{Place.{Place, place_cmp}, Ascending.{ascending}}
use Rattle.ocfl_tree.specs.{StorageRoot.{StorageRoot}, declared.store.Opening.{Opening}}
use Rattle.ocfl_report.specs.{Line.{Item}, declared.further.Further.{Further}}
use Rattle.ocfl_rules.specs.Inventories.{notes, is_hashed}
use Rattle.ocfl_rules.specs.Lines.{is_empty}
use Rattle.ocfl_rules.specs.Audit.{candidates, item_of}
use Rattle.ocfl_rules.specs.Trail.{unread_of}

-- the places of the audit's items, ascending
unfoldable pub item_places : Further → StorageRoot → List Place
item_places further root = filter (λ p. not (is_empty (notes further root None p))) (ascending place_cmp (candidates root))

-- the places above p, and all of them for the start
abbrev pub places_after : List Place → Option Place → List Place
places_after ps None = ps
places_after ps (Some p) = filter (λ q. is_lt (place_cmp p q)) ps

-- the places of the items above a place, and all of them for the start
unfoldable pub due : Further → StorageRoot → Option Place → List Place
due further root last = places_after (item_places further root) last

-- the items of places, if a trail shows what could not be read
unfoldable pub items_at : Further → StorageRoot → List Opening → List Place → List Item
items_at further root trail places = map (item_of further root (unread_of further root trail)) places

-- those of the places whose files are hashed
unfoldable pub hashed_among : Further → StorageRoot → List Place → List Place
hashed_among further root places = filter (is_hashed further root) places
