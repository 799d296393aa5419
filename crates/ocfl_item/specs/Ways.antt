-- The way down to a place: what is known of a directory on it, and what was done to come there.
use Rattle.std.specs.Prelude.{◌≡◌, ℕ, ◌&&◌, nat_le, length, List, [], ◌∷◌, ◌++◌, Bool, true, false, Option, Some, None, codes}
use Rattle.std.specs.List.{list_all}
use Rattle.ocfl_tree.specs.{Place.{Text, Place, text_eq}, StorageRoot.{StorageRoot, is_dir}}
use Rattle.ocfl_tree.specs.{Store.{Store, Did}, Listing.{IsListing}, declared.store.Entry.{Entry}}
use Rattle.ocfl_tree.specs.{declared.store.Kind.{Kind}, declared.store.Opening.{Opening}}
use Rattle.ocfl_tree.specs.declared.store.Kind.TheVariants as kind
use Rattle.ocfl_report.specs.declared.further.Further.{Further}
use Rattle.ocfl_inventory.specs.Declaration.{Declared}
use Rattle.ocfl_rules.specs.Zone.{max_listed_depth, hierarchy, inside, zone, is_entered, object_declared, beginnings, is_known, is_declared}
use Rattle.ocfl_rules.specs.Inventories.{is_hashed}
use Rattle.ocfl_rules.specs.Trail.{heads_of}
use Rattle.ocfl_rules.specs.Walk.{is_reached}
use Rattle.ocfl_item.specs.{Looking.{IsFront, failures_by}, Auditing.{FailedAt, IsMetadataRead}}
use Rattle.ocfl_item.specs.{declared.fault.Fault.{Fault}, declared.folder.Head.{Head}}
use Rattle.ocfl_item.specs.declared.fault.Fault.TheVariants as fault
use Rattle.ocfl_item.specs.declared.folder.Head.TheVariants as head

-- the places below d on the way to d ++ p, with that place at the end
abbrev pub way_below : Place → Place → List Place
way_below d [] = []
way_below d (n ∷ p) = (d ++ n ∷ []) ∷ way_below (d ++ n ∷ []) p

-- ---- what was done

-- from s to t the first directories of a way were listed, and these files were opened
pub record Goes (further : Further) (root : StorageRoot) (s t : Store) (way : List Place) (trail : List Opening) (failures : ℕ) : Type 0 where
  pub over : s.tree ≡ root
  pub listings : List Place
  pub did : Did s t trail listings failures
  pub read : failures ≡ 0 → IsMetadataRead further root trail
  pub listed : IsFront listings way

-- and then there was a fault; one of the store names the place at which it failed
pub record Stops (further : Further) (root : StorageRoot) (s t : Store) (way : List Place) (trail : List Opening) (why : Fault) : Type 0 where
  pub goes : Goes further root s t way trail (failures_by why)
  pub store : (q : Place) → why ≡ fault.Store q → (is_hashed further root q ≡ false) × FailedAt further root s t goes.listings trail q

-- ---- one name further

abbrev pub is_dir_kind : Option Kind → Bool
is_dir_kind None = false
is_dir_kind (Some kind.File) = false
is_dir_kind (Some kind.Dir) = true
is_dir_kind (Some kind.Other) = false

-- a directory at depth 127 at most
abbrev pub is_listable : StorageRoot → Place → Bool
is_listable root d = nat_le (length d) max_listed_depth && is_dir root d

-- a name in the storage root that leads to no object if it is a directory's (OCFL 1.1, 4.4
-- Storage Root Extensions)
abbrev pub is_extensions_name : Place → Text → Bool
is_extensions_name [] n = text_eq n (codes "extensions")
is_extensions_name (m ∷ d) n = false

-- the directory at d was listed, with these entries
pub record Enters (root : StorageRoot) (s t : Store) (d e : Place) (es : List Entry) : Type 0 where
  pub is : e ≡ d
  pub did : Did s t [] (d ∷ []) 0
  pub listable : is_listable root d ≡ true
  pub listing : IsListing root d es

-- each opening is that of an inventory
abbrev pub AreInventories : StorageRoot → List Opening → Type 0
AreInventories root trail = length trail ≡ length (heads_of root trail)

-- ---- what declarations say

-- no declaration, a known version, or a declaration at which the head stops
abbrev pub IsHead : Declared → Head → Type 0
IsHead d head.Undeclared = is_declared d ≡ false
IsHead d head.Known = (is_declared d ≡ true) × (is_known d ≡ true)
IsHead d head.Stops = (is_declared d ≡ true) × (is_known d ≡ false)

-- ---- where one has come to

-- a directory that is entered, and its entries
pub record IsAt (root : StorageRoot) (d : Place) (es : List Entry) : Type 0 where
  pub listing : IsListing root d es
  pub reached : is_reached root d ≡ true

pub record InHierarchy (root : StorageRoot) (d : Place) (es : List Entry) : Type 0 where
  pub here : IsAt root d es
  pub zone : zone root d ≡ hierarchy

-- an object of known version
pub record IsObject (root : StorageRoot) (o : Place) (es : List Entry) : Type 0 where
  pub listing : IsListing root o es
  pub way : list_all (is_entered root) (beginnings o) ≡ true
  pub listable : is_listable root o ≡ true
  pub zone : zone root o ≡ inside o []
  pub known : is_known (object_declared root o) ≡ true
