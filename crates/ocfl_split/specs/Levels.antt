-- The directories of the storage hierarchy, level by level.
use Rattle.std.specs.Prelude.{◌≡◌, ◌⊎◌, ℕ, zero, suc, ◌&&◌, Some, List, [], ◌∷◌, ◌++◌, Bool, not, if◌then◌else◌, filter, flat_map, map}
use Rattle.ocfl_tree.specs.{Place.{Place}, StorageRoot.{StorageRoot, dir, at, is_dir, names_in}}
use Rattle.ocfl_rules.specs.Zone.{hierarchy, zone, root_declared, object_declared, is_known, is_declared}
use Rattle.ocfl_rules.specs.Objects.{IsObjectRoot}
use Rattle.ocfl_item.specs.Ways.{is_extensions_name}

-- whether what is in a directory of the hierarchy belongs to the hierarchy too: in the storage
-- root if its version is known, elsewhere if no object is declared (OCFL 1.1, 4.3 Storage
-- Hierarchies)
abbrev pub leads_on : StorageRoot → Place → Bool
leads_on root [] = is_known (root_declared root)
leads_on root (n ∷ d) = not (is_declared (object_declared root (n ∷ d)))

-- the directories right in a directory, ascending, without the extensions of the storage root (OCFL
-- 1.1, 4.4 Storage Root Extensions)
abbrev pub directories_in : StorageRoot → Place → List Place
directories_in root d = map (λ n. d ++ n ∷ []) (filter (λ n. is_dir root (d ++ n ∷ []) && not (is_extensions_name d n)) (names_in root d))

-- those of them that belong to the hierarchy: an object's do not
abbrev pub directories_below : StorageRoot → Place → List Place
directories_below root d = if leads_on root d then directories_in root d else []

abbrev pub level_below : StorageRoot → List Place → List Place
level_below root ds = flat_map (directories_below root) ds

-- the directories of the storage hierarchy with n names, ascending; an object's root is one
abbrev pub level : StorageRoot → ℕ → List Place
level root zero = [] ∷ []
level root (suc n) = level_below root (level root n)

-- a directory of the storage hierarchy, or an object's root in it
pub record LiesInHierarchy (root : StorageRoot) (p : Place) : Type 0 where
  pub directory : at root p ≡ Some dir
  pub part : (zone root p ≡ hierarchy) ⊎ IsObjectRoot root p
