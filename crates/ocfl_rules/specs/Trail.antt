-- What openings and listings show of an audit.
use Rattle.std.specs.Prelude.{◌&&◌, ◌||◌, List, [], ◌∷◌, ◌++◌, Bool, true, false, not, is_some, map, filter, if◌then◌else◌}
use Rattle.ocfl_tree.specs.{Place.{Place, place_cmp, text_eq}, Ascending.{ascending}}
use Rattle.ocfl_tree.specs.{StorageRoot.{StorageRoot}, declared.store.Opening.{Opening}}
use Rattle.ocfl_report.specs.declared.further.Further.{Further}
use Rattle.ocfl_report.specs.declared.further.Further.TheVariants.{Nothing, Inventories}
use Rattle.ocfl_inventory.specs.Declaration.{is_declaration}
use Rattle.ocfl_inventory.specs.declared.declaration.Level.TheVariants.{Root, Object}
use Rattle.ocfl_rules.specs.Inventories.{is_version_sidecar}
use Rattle.ocfl_rules.specs.Zone.{Zone, inside, zone, inventory_name, inventory_at, skipped, hierarchy}
use Rattle.ocfl_rules.specs.Lines.{is_inventory_or_sidecar}
use Rattle.ocfl_rules.specs.Audit.{Unread}

-- ---- what is read for its own sake: declarations, inventories and sidecars, by name and zone

abbrev pub is_root_meta : Place → Bool
is_root_meta [] = false
is_root_meta (n ∷ []) = is_declaration Root n
is_root_meta (n ∷ m ∷ q) = false

abbrev pub is_object_meta : Place → Bool
is_object_meta [] = false
is_object_meta (n ∷ []) = is_declaration Object n || is_inventory_or_sidecar n
is_object_meta (n ∷ m ∷ q) = false

abbrev pub is_meta_zone : Zone → Bool
is_meta_zone skipped = false
is_meta_zone hierarchy = false
is_meta_zone (inside o q) = is_object_meta q

abbrev pub is_common_meta : StorageRoot → Place → Bool
is_common_meta root p = is_root_meta p || is_meta_zone (zone root p)

abbrev pub is_meta : Further → StorageRoot → Place → Bool
is_meta Nothing root p = is_common_meta root p
is_meta Inventories root p = is_common_meta root p || is_version_sidecar (zone root p)

-- ---- what openings show of content

abbrev pub places_of : List Opening → List Place
places_of trail = map (λ o. o.place) trail

-- the openings of a trail outside them
abbrev pub content_openings : Further → StorageRoot → List Opening → List Opening
content_openings further root trail = filter (λ o. not (is_meta further root o.place)) trail

abbrev pub content_trail : Further → StorageRoot → List Opening → List Place
content_trail further root trail = places_of (content_openings further root trail)

-- the content files that a trail shows to be unreadable, each with what it gave
abbrev pub unread_of : Further → StorageRoot → List Opening → Unread
unread_of further root trail = map (λ o. (o.place, o.given)) (filter (λ o. o.failed) (content_openings further root trail))

-- ---- the inventories that heads read

abbrev pub is_head : Zone → Bool
is_head skipped = false
is_head hierarchy = false
is_head (inside o []) = true
is_head (inside o (n ∷ q)) = false

-- an object of known version, with an inventory
abbrev pub reads_inventory : StorageRoot → Place → Bool
reads_inventory root o = is_head (zone root o) && is_some (inventory_at root o)

-- ascending, each once
abbrev pub inventories : StorageRoot → List Place
inventories root = map (λ o. o ++ inventory_name ∷ []) (filter (reads_inventory root) (ascending place_cmp (map (λ e. e.0) root)))

-- the objects whose inventories were opened
abbrev pub inventory_of : Zone → List Place
inventory_of skipped = []
inventory_of hierarchy = []
inventory_of (inside o []) = []
inventory_of (inside o (n ∷ [])) = if text_eq n inventory_name then o ∷ [] else []
inventory_of (inside o (n ∷ m ∷ q)) = []

abbrev pub heads_of : StorageRoot → List Opening → List Place
heads_of root [] = []
heads_of root (o ∷ trail) = inventory_of (zone root o.place) ++ heads_of root trail
