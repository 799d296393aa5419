-- What is below a directory, name by name.
use Rattle.std.specs.Prelude.{◌≡◌, ℕ, zero, suc, ◌&&◌, List, [], ◌∷◌, ◌++◌, Bool, false, if◌then◌else◌, Option, Some, None, filter, filter_map, flat_map}
use Rattle.std.specs.{List.{list_all}, Ordering.{is_lt}}
use Rattle.ocfl_tree.specs.Place.{Text, Place, text_cmp, text_eq, place_eq, begins}
use Rattle.ocfl_tree.specs.Ascending.{ascending}
use Rattle.ocfl_tree.specs.StorageRoot.{StorageRoot, Leaf, dir, at, names_in}
use Rattle.ocfl_report.specs.{Line.{Item}, declared.further.Further.{Further}}
use Rattle.ocfl_inventory.specs.{Table.{Table, paths_of}, ListedPath.{is_version_name}}
use Rattle.ocfl_rules.specs.Zone.{Zone, skipped, hierarchy, inside, zone, is_entered, table_at, object_declared, is_in_extensions, is_listed_within, beginnings, is_declared}
use Rattle.ocfl_rules.specs.Audit.{Unread, has_lines, item_of}
use Rattle.ocfl_rules.specs.Head.{on}

-- the items at d and below it
abbrev pub items_under : Place → List Item → List Item
items_under d items = filter (λ i. begins d i.place) items

-- the item at d, if there is one
abbrev pub items_of_place : Place → List Item → List Item
items_of_place d items = filter (λ i. place_eq d i.place) items

-- d is entered, and so is all above it
abbrev pub is_reached : StorageRoot → Place → Bool
is_reached root d = list_all (is_entered root) (beginnings d) && is_entered root d

-- the names that a listing of d shows to the walk
abbrev pub seen_names : StorageRoot → Place → List Text
seen_names root d = if is_reached root d then names_in root d else []

-- the name that leads from d on to p, if p is below
abbrev pub next_name : Place → Place → Option Text
next_name [] [] = None
next_name [] (n ∷ p) = Some n
next_name (a ∷ d) [] = None
next_name (a ∷ d) (n ∷ p) = if text_eq a n then next_name d p else None

abbrev pub names_of_table : Option Table → Place → List Text
names_of_table None q = []
names_of_table (Some t) q = filter_map (next_name q) (paths_of t)

-- the names by which a table's paths go on
abbrev pub path_names_in : StorageRoot → Zone → List Text
path_names_in root skipped = []
path_names_in root hierarchy = []
path_names_in root (inside o q) = names_of_table (table_at root o) q

abbrev pub path_names : StorageRoot → Place → List Text
path_names root d = path_names_in root (zone root d)

-- the names below d that may lead to items, ascending
abbrev pub names_below : StorageRoot → Place → List Text
names_below root d = ascending text_cmp (seen_names root d ++ path_names root d)

-- ---- the walk

abbrev pub item_at : Further → StorageRoot → Unread → Place → List Item
item_at further root unread d = on (has_lines (item_of further root unread d)) (item_of further root unread d)

-- the items at d and below it, k levels deep
abbrev pub walk : Further → ℕ → StorageRoot → Unread → Place → List Item
walk further zero root unread d = []
walk further (suc k) root unread d = item_at further root unread d ++ flat_map (λ n. walk further k root unread (d ++ n ∷ [])) (names_below root d)

-- those of them above d ++ q
abbrev pub walk_after : Further → ℕ → StorageRoot → Unread → Place → Place → List Item
walk_after further zero root unread d q = []
walk_after further (suc k) root unread d [] = flat_map (λ n. walk further k root unread (d ++ n ∷ [])) (names_below root d)
walk_after further (suc k) root unread d (n ∷ q) = walk_after further k root unread (d ++ n ∷ []) q ++ flat_map (λ m. walk further k root unread (d ++ m ∷ [])) (filter (λ m. is_lt (text_cmp n m)) (names_below root d))

-- ---- what a folder keeps: above each place there is a directory
abbrev pub IsClosed : StorageRoot → Type 0
IsClosed root = (d : Place) (n : Text) (leaf : Leaf) → at root (d ++ n ∷ []) ≡ Some leaf → at root d ≡ Some dir

-- ---- one name further

-- the zone under d by the name n, if d is not the root or n leads to no extensions
abbrev pub step_zone : StorageRoot → Place → Text → Zone → Zone
step_zone root d n skipped = skipped
step_zone root d n hierarchy = if is_declared (object_declared root (d ++ n ∷ [])) then inside (d ++ n ∷ []) [] else hierarchy
step_zone root d n (inside o q) = inside o (q ++ n ∷ [])

abbrev pub is_extensions : StorageRoot → Place → Text → Bool
is_extensions root [] n = is_in_extensions root (n ∷ [])
is_extensions root (m ∷ d) n = false

-- whether a directory of an object belongs to those listed, from its name and the one above
abbrev pub step_listed : Table → Place → Text → Bool
step_listed t [] n = is_version_name n
step_listed t (v ∷ []) n = is_version_name v && text_eq n t.content
step_listed t (v ∷ c ∷ q) n = is_listed_within t (v ∷ c ∷ q)
