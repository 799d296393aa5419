-- The place before a place: a walk that begins at the one is after the other.
use Rattle.std.specs.Prelude.{List, [], ◌∷◌, Option, Some, None, not, filter, option_map}
use Rattle.std.specs.Ordering.{is_lt}
use Rattle.ocfl_tree.specs.{Place.{Place, place_cmp}, Ascending.{ascending}}
use Rattle.ocfl_tree.specs.StorageRoot.{StorageRoot}
use Rattle.ocfl_rules.specs.Audit.{candidates}

-- the last of some places
abbrev pub last_place : List Place → Option Place
last_place [] = None
last_place (p ∷ []) = Some p
last_place (p ∷ q ∷ ps) = last_place (q ∷ ps)

-- the greatest place below p that may have lines, and none below the storage root's: what is
-- above it is what is not less than p
unfoldable pub place_before : StorageRoot → Place → Option Place
place_before root p = last_place (filter (λ q. is_lt (place_cmp q p)) (ascending place_cmp (candidates root)))

-- those of some places that are not less than p
abbrev pub places_from : Place → List Place → List Place
places_from p qs = filter (λ q. not (is_lt (place_cmp q p))) qs

-- the directory that a place is in, and none for the storage root
abbrev pub directory_of : Place → Option Place
directory_of [] = None
directory_of (n ∷ []) = Some []
directory_of (n ∷ m ∷ p) = option_map (λ d. n ∷ d) (directory_of (m ∷ p))
