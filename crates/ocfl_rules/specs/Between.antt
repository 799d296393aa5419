-- Which directories an audit looks into, and whose inventories it reads, between two places.
use Rattle.std.specs.Prelude.{◌≡◌, ⊤, ◌&&◌, nat_le, List, [], ◌∷◌, Bool, true, false, not, length, Option, Some, None, map, filter}
use Rattle.std.specs.{List.{list_all}, Ordering.{is_lt}, declared.cmp.Ordering.TheVariants.{Less}}
use Rattle.ocfl_tree.specs.{Place.{Place, place_cmp}, Ascending.{ascending}}
use Rattle.ocfl_tree.specs.StorageRoot.{StorageRoot, is_dir}
use Rattle.ocfl_rules.specs.Zone.{Zone, skipped, hierarchy, inside, zone, table_at, is_entered, is_listed_in_object, max_listed_depth, beginnings}
use Rattle.ocfl_rules.specs.{Audit.{candidates}, Due.{places_after}, Trail.{reads_inventory}}

-- a directory of the storage hierarchy, an object's root, even if its head stops, since its
-- entries declare it, or a directory of an object that is listed
abbrev pub shows_entries : StorageRoot → Zone → Bool
shows_entries root skipped = false
shows_entries root hierarchy = true
shows_entries root (inside o []) = true
shows_entries root (inside o (n ∷ q)) = is_listed_in_object (table_at root o) (n ∷ q)

-- the storage root, and each such directory at depth 127 at most above which all is entered
abbrev pub is_looked_into : StorageRoot → Place → Bool
is_looked_into root [] = true
is_looked_into root (n ∷ d) =
    list_all (is_entered root) (beginnings (n ∷ d)) && (nat_le (length (n ∷ d)) max_listed_depth && (is_dir root (n ∷ d) && shows_entries root (zone root (n ∷ d))))

-- z is above a place, and not past one, if these are given
abbrev pub IsBeyond : Option Place → Place → Type 0
IsBeyond None z = ⊤
IsBeyond (Some a) z = place_cmp a z ≡ Less

abbrev pub IsWithin : Option Place → Place → Type 0
IsWithin None z = ⊤
IsWithin (Some b) z = is_lt (place_cmp b z) ≡ false

-- the places above from and not past to, all if these are not given
abbrev pub up_to : List Place → Option Place → List Place
up_to ps None = ps
up_to ps (Some b) = filter (λ p. not (is_lt (place_cmp b p))) ps

abbrev pub between : List Place → Option Place → Option Place → List Place
between ps from to = up_to (places_after ps from) to

-- the directories that are looked into between two places, ascending
unfoldable pub looked_between : StorageRoot → Option Place → Option Place → List Place
looked_between root from to = between (filter (is_looked_into root) (ascending place_cmp (candidates root))) from to

-- the objects between two places whose inventories are read, ascending
unfoldable pub read_between : StorageRoot → Option Place → Option Place → List Place
read_between root from to = between (filter (reads_inventory root) (ascending place_cmp (map (λ e. e.0) root))) from to
