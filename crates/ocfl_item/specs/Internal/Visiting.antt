-- What is known of an entry that the walk comes to.
use Rattle.std.specs.Prelude.{AllPairs, ◌≢◌, ◌≡◌, ◌≤◌, List, [], ◌∷◌, Bool, cond, length, Result, MatchResult, true, false, Option, Some, None, option_map}
use Rattle.std.specs.List.{list_all}
use Rattle.ocfl_tree.specs.{Place.{Text, Place, text_eq}, StorageRoot.{StorageRoot, at, is_dir}}
use Rattle.ocfl_tree.specs.{Listing.{kind_of, IsListing}, declared.store.Entry.{Entry}}
use Rattle.ocfl_tree.specs.{declared.store.Kind.{Kind}, Store.{Store, Did}}
use Rattle.ocfl_tree.specs.declared.store.Opening.{Opening}
use Rattle.ocfl_tree.specs.declared.store.Kind.TheVariants as kind
use Rattle.ocfl_report.specs.declared.further.Further.{Further}
use Rattle.ocfl_report.specs.declared.further.Further.TheVariants.{Nothing, Inventories}
use Rattle.ocfl_inventory.specs.{Note.{Note, plain}, Declaration.{undeclared}}
use Rattle.ocfl_inventory.specs.Entries.{meaning, PointsAtOne}
use Rattle.ocfl_inventory.specs.declared.declaration.Declared.{Declared as MadeDeclared}
use Rattle.ocfl_inventory.specs.{Table.{Table}, ListedPath.{is_version_name}}
use Rattle.ocfl_inventory.specs.declared.declaration.Level.TheVariants as level
use Rattle.ocfl_rules.specs.Zone.{hierarchy, inside, zone, table_at, inventory_name, is_entered, is_listed_zone, object_declared, root_declared, beginnings, is_declared, max_listed_depth}
use Rattle.ocfl_rules.specs.Lines.{listed_dir_notes}
use Rattle.ocfl_rules.specs.Inventories.{notes, is_hashed}
use Rattle.ocfl_rules.specs.Between.{is_looked_into}
use Rattle.ocfl_rules.specs.Walk.{seen_names}
use Rattle.ocfl_rules.specs.Head.{on}
use Rattle.ocfl_rules.specs.Trail.{content_trail, is_head, heads_of, reads_inventory}
use Rattle.ocfl_item.specs.Auditing.{FailedAt, IsMetadataRead, LieIn}
use Rattle.ocfl_item.specs.{Looking.{IsFront, LiesUpTo, failures_by}, Internal.Ways.{IsHeadOf}}
use Rattle.ocfl_item.specs.{Meeting.{IsVisit}, declared.fault.Fault.{Fault}}
use Rattle.ocfl_item.specs.{declared.lines.PlaceLines.{PlaceLines}, declared.role.Role.{Role}}
use Rattle.ocfl_item.specs.{declared.visit.Visit.{Visit}, declared.root.RootInventory.{RootInventory as MadeRoot}}
use Rattle.ocfl_item.specs.declared.fault.Fault.TheVariants as fault
use Rattle.ocfl_item.specs.declared.role.Role.TheVariants as role

-- all above it is entered, and what is there is of this kind
pub record IsEntryAt (root : StorageRoot) (e : Place) (k : Kind) : Type 0 where
  pub way : list_all (is_entered root) (beginnings e) ≡ true
  pub kind : option_map kind_of (at root e) ≡ Some k

-- no object, with no file that is hashed, and these lines
pub record IsPlainAt (further : Further) (root : StorageRoot) (e : Place) (ns : List Note) : Type 0 where
  pub lines : notes further root None e ≡ ns
  pub unhashed : is_hashed further root e ≡ false
  pub head : is_head (zone root e) ≡ false

-- whether an entry of a version directory is an inventory that is checked
abbrev pub is_checked : Further → Text → Kind → Bool
is_checked Nothing n k = false
is_checked Inventories n kind.File = text_eq n inventory_name
is_checked Inventories n kind.Dir = false
is_checked Inventories n kind.Other = false

-- the inventory in the directory of the version v of an object whose head does not stop
pub record IsInventoryAt (root : StorageRoot) (e o : Place) (v : Text) : Type 0 where
  pub here : IsEntryAt root e kind.File
  pub zone : zone root e ≡ inside o (v ∷ inventory_name ∷ [])
  pub named : is_version_name v ≡ true
  pub table : Table
  pub goes_on : table_at root o ≡ Some table

-- a directory that is entered if it is not too deep
pub record IsListedAt (root : StorageRoot) (e : Place) : Type 0 where
  pub way : list_all (is_entered root) (beginnings e) ≡ true
  pub directory : is_dir root e ≡ true
  pub listed : is_listed_zone root (zone root e) ≡ true

-- not looked into, no inventory is read here, and no names are seen
pub record IsShut (root : StorageRoot) (e : Place) : Type 0 where
  pub looked : is_looked_into root e ≡ false
  pub read : reads_inventory root e ≡ false
  pub names : seen_names root e ≡ []

-- a directory of the storage hierarchy, or an object in it
pub record IsDirectoryAt (root : StorageRoot) (e : Place) : Type 0 where
  pub here : IsEntryAt root e kind.Dir
  pub below : e ≢ []
  pub zone : zone root e ≡ cond (is_declared (object_declared root e)) (inside e []) hierarchy

-- one that was listed, and declares nothing
pub record IsUndeclaredAt (root : StorageRoot) (e : Place) (es : List Entry) : Type 0 where
  pub directory : IsDirectoryAt root e
  pub short : length e ≤ max_listed_depth
  pub listing : IsListing root e es
  pub none : object_declared root e ≡ undeclared

-- what an entry is to the walk
abbrev pub HasRole : Further → StorageRoot → Place → Role → Type 0
HasRole further root e role.LeftAlone = IsPlainAt further root e [] × IsShut root e
HasRole further root e (role.Plain code) = IsPlainAt further root e (plain code ∷ []) × IsShut root e
HasRole further root e role.Listed = IsListedAt root e × IsPlainAt further root e (listed_dir_notes root e [])
HasRole further root e role.Directory = IsDirectoryAt root e

-- the storage root, as it was listed, and what its declarations were read to be
pub record IsBase (root : StorageRoot) (d : Place) (es : List Entry) (m : MadeDeclared) : Type 0 where
  pub top : d ≡ []
  pub listing : IsListing root d es
  pub says : meaning level.Root es m ≡ root_declared root
  pub points : PointsAtOne level.Root es m

-- ---- an object's head

-- from s to t metadata was read, right in o and each file once, of inventories just that of o if
-- it has one, and nothing was listed
pub record ReadsOne (further : Further) (root : StorageRoot) (s t : Store) (o : Place) : Type 0 where
  pub over : s.tree ≡ root
  pub trail : List Opening
  pub did : Did s t trail [] 0
  pub read : IsMetadataRead further root trail
  pub meta : content_trail further root trail ≡ []
  pub once : AllPairs (λ a b. a.place ≢ b.place) trail
  pub heads : heads_of root trail ≡ on (reads_inventory root o) o
  pub near : LieIn further root (o ∷ []) trail

-- at most this, and then there was a fault
pub record ReadOneFails (further : Further) (root : StorageRoot) (s t : Store) (o : Place) (why : Fault) : Type 0 where
  pub over : s.tree ≡ root
  pub trail : List Opening
  pub did : Did s t trail [] (failures_by why)
  pub read : failures_by why ≡ 0 → IsMetadataRead further root trail
  pub meta : content_trail further root trail ≡ []
  pub once : AllPairs (λ a b. a.place ≢ b.place) trail
  pub heads : IsFront (heads_of root trail) (on (reads_inventory root o) o)
  pub near : LieIn further root (o ∷ []) trail
  pub store : (q : Place) → why ≡ fault.Store q → (is_hashed further root q ≡ false) × FailedAt further root s t [] trail q
  pub up_to : (q : Place) → why ≡ fault.Store q → LiesUpTo (Some o) q

-- the lines of an object's head and its table
pub record HeadRead (further : Further) (root : StorageRoot) (s t : Store) (o : Place) (r : Result (PlaceLines × Option Table × Option MadeRoot) Fault) : Type 0 where
  pub gives : MatchResult r (λ p. ReadsOne further root s t o × IsHeadOf further root o p) (λ why. ReadOneFails further root s t o why)

pub record VisitsHead (further : Further) (root : StorageRoot) (s t : Store) (o : Place) (r : Result Visit Fault) : Type 0 where
  pub gives : MatchResult r (λ v. ReadsOne further root s t o × IsVisit further root o v) (λ why. ReadOneFails further root s t o why)
