-- What a storage root holds: places with what is at each, the first if one is there twice.
use Rattle.std.specs.Prelude.{ℕ, List, [], ◌∷◌, ◌++◌, Bool, true, false, if◌then◌else◌, Option, Some, None, filter_map, option_and_then}
use Rattle.ocfl_tree.specs.Place.{Text, Place, text_cmp, place_eq, child_name}
use Rattle.ocfl_tree.specs.Ascending.{ascending}

-- a file with its bytes, a directory, or what is neither (a link among others)
pub data Leaf : Type 0 where
  file : Text → Leaf
  dir : Leaf
  other : Leaf

abbrev pub StorageRoot : Type 0
StorageRoot = List (Place × Leaf)

abbrev pub lookup : StorageRoot → Place → Option Leaf
lookup [] p = None
lookup (e ∷ root) p = if place_eq e.0 p then Some e.1 else lookup root p

abbrev pub is_dir_leaf : Option Leaf → Bool
is_dir_leaf None = false
is_dir_leaf (Some (file bytes)) = false
is_dir_leaf (Some dir) = true
is_dir_leaf (Some other) = false

-- what is below front at a name and the names below it: each but the last must lead to a
-- directory
abbrev pub at_below : StorageRoot → Place → Text → Place → Option Leaf
at_below root front n [] = lookup root (front ++ n ∷ [])
at_below root front n (m ∷ p) = if is_dir_leaf (lookup root (front ++ n ∷ [])) then at_below root (front ++ n ∷ []) m p else None

-- what is at a place; the storage root is a directory
abbrev pub at : StorageRoot → Place → Option Leaf
at root [] = Some dir
at root (n ∷ p) = at_below root [] n p

abbrev pub bytes_of : Leaf → Option Text
bytes_of (file bytes) = Some bytes
bytes_of dir = None
bytes_of other = None

-- the bytes of the file at a place
abbrev pub file_at : StorageRoot → Place → Option Text
file_at root p = option_and_then bytes_of (at root p)

abbrev pub is_dir : StorageRoot → Place → Bool
is_dir root p = is_dir_leaf (at root p)

-- a directory of more entries cannot be listed
abbrev pub max_entries : ℕ
max_entries = 1000000

-- the names of the entries right below a place, ascending
abbrev pub names_in : StorageRoot → Place → List Text
names_in root d = ascending text_cmp (filter_map (λ e. child_name d e.0) root)
