-- Which objects an audit reaches, which of them have an inventory that it reads, which directories
-- it looks into, and what is metadata.
use Rattle.std.specs.Prelude.{◌≡◌, ◌≢◌, ◌⊎◌, ◌≤◌, length, [], ◌∷◌, ◌++◌, true, false, Some, codes}
use Rattle.ocfl_tree.specs.{Place.{Text, Place}, StorageRoot.{StorageRoot, dir, file, file_at}}
use Rattle.ocfl_report.specs.declared.further.Further.{Further}
use Rattle.ocfl_report.specs.declared.further.Further.TheVariants.{Inventories}
use Rattle.ocfl_inventory.specs.Declaration.{known, is_declaration}
use Rattle.ocfl_inventory.specs.declared.declaration.Level.TheVariants.{Root, Object}
use Rattle.ocfl_inventory.specs.{declared.declaration.Version.{Version}, Table.{Table}, ListedPath.{is_version_name}}
use Rattle.ocfl_rules.specs.Zone.{hierarchy, inside, zone, seen, table_at, is_listed_within, inventory_name, root_declared, object_declared, is_in_extensions, is_known, is_declared, max_listed_depth}

-- an object's root: in a storage root of known version, outside its extensions, declared, and with
-- no object above it
pub record IsObjectRoot (root : StorageRoot) (o : Place) : Type 0 where
  pub in_root : is_known (root_declared root) ≡ true
  pub below_root : o ≢ []
  pub not_in_extensions : is_in_extensions root o ≡ false
  pub declares : is_declared (object_declared root o) ≡ true
  pub outermost : (b : Place) (n : Text) (q : Place) → o ≡ b ++ n ∷ q → b ≢ [] → is_declared (object_declared root b) ≡ false

-- an object's root that declares one version, a known one, and holds a file `inventory.json`, of
-- whatever size
pub record HasInventory (root : StorageRoot) (o : Place) : Type 0 where
  pub object : IsObjectRoot root o
  pub version : (v : Version) × (object_declared root o ≡ known v)
  pub inventory : (bytes : Text) × (file_at root (o ++ inventory_name ∷ []) ≡ Some bytes)

-- whose entries an audit looks at: a place in the storage hierarchy, an object's root, and what is
-- listed within an object whose head goes on
pub data ShowsEntries (root : StorageRoot) (d : Place) : Type 0 where
  of_hierarchy : zone root d ≡ hierarchy → ShowsEntries root d
  object_root : IsObjectRoot root d → ShowsEntries root d
  listed_in_object : (o q : Place) (n : Text) (t : Table) → zone root d ≡ inside o (n ∷ q) → table_at root o ≡ Some t → is_listed_within t (n ∷ q) ≡ true → ShowsEntries root d

-- a directory at depth 127 at most that is seen, and whose entries are looked at
pub record IsLookedInto (root : StorageRoot) (d : Place) : Type 0 where
  pub is_seen : seen root d ≡ Some dir
  pub depth : length d ≤ max_listed_depth
  pub shows : ShowsEntries root d

-- an inventory, or one of its sidecars
pub data IsInventoryFile (n : Text) : Type 0 where
  inventory : n ≡ codes "inventory.json" → IsInventoryFile n
  sidecar_sha256 : n ≡ codes "inventory.json.sha256" → IsInventoryFile n
  sidecar_sha512 : n ≡ codes "inventory.json.sha512" → IsInventoryFile n

-- a file that an object's root may hold
pub data IsObjectFile (n : Text) : Type 0 where
  declaration : is_declaration Object n ≡ true → IsObjectFile n
  of_inventory : IsInventoryFile n → IsObjectFile n

-- a sidecar in a version directory of an object
pub record IsVersionSidecar (root : StorageRoot) (p : Place) : Type 0 where
  pub object : Place
  pub version : Text
  pub name : Text
  pub is_object : IsObjectRoot root object
  pub is_version : is_version_name version ≡ true
  pub named : (name ≡ codes "inventory.json.sha256") ⊎ (name ≡ codes "inventory.json.sha512")
  pub whole : p ≡ object ++ version ∷ name ∷ []

-- the inventory in a version directory of an object, if it is seen
pub record IsVersionInventory (root : StorageRoot) (p object : Place) (version bytes : Text) : Type 0 where
  pub is_object : IsObjectRoot root object
  pub is_seen : seen root p ≡ Some (file bytes)
  pub whole : p ≡ object ++ version ∷ codes "inventory.json" ∷ []

-- what is read for its own sake: the storage root's declarations, and such files right in an
-- object's root; and sidecars in version directories, if their inventories are checked
pub data IsMetadata (further : Further) (root : StorageRoot) (p : Place) : Type 0 where
  of_root : (n : Text) → is_declaration Root n ≡ true → p ≡ n ∷ [] → IsMetadata further root p
  of_object : (o : Place) (n : Text) → IsObjectRoot root o → IsObjectFile n → p ≡ o ++ n ∷ [] → IsMetadata further root p
  of_version : further ≡ Inventories → IsVersionSidecar root p → IsMetadata further root p
