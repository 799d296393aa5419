-- What reading an object's own files did, and what is known of an object whose declarations were
-- read.
use Rattle.std.specs.Prelude.{List, Bool, true, false, Option, Some, None, Result, MatchResult, option_map, AllPairs, ◌≡◌, ◌≢◌, []}
use Rattle.std.specs.List.{list_all}
use Rattle.ocfl_tree.specs.{Place.{Place}, StorageRoot.{StorageRoot}, Store.{Store, Did}}
use Rattle.ocfl_tree.specs.{Listing.{IsListing}, declared.store.Entry.{Entry}}
use Rattle.ocfl_tree.specs.{declared.store.Kind.{Kind}, declared.store.Opening.{Opening}}
use Rattle.ocfl_tree.specs.declared.store.Trouble.{Trouble}
use Rattle.ocfl_report.specs.declared.further.Further.{Further}
use Rattle.ocfl_inventory.specs.Entries.{meaning, PointsAtOne}
use Rattle.ocfl_inventory.specs.declared.declaration.Declared.{Declared as MadeDeclared}
use Rattle.ocfl_inventory.specs.Table.{Table}
use Rattle.ocfl_rules.specs.Zone.{inside, zone, is_entered, object_declared, table_at, beginnings}
use Rattle.ocfl_rules.specs.Inventories.{notes}
use Rattle.ocfl_rules.specs.Head.{on}
use Rattle.ocfl_rules.specs.Trail.{content_trail, heads_of, reads_inventory}
use Rattle.ocfl_item.specs.{Looking.{IsFront}, Auditing.{IsMetadataRead}, Internal.Lines.{HasLines}}
use Rattle.ocfl_item.specs.{declared.fault.Fault.{Fault}, declared.lines.PlaceLines.{PlaceLines}}
use Rattle.ocfl_item.specs.declared.folder.Head.{Head}
use Rattle.ocfl_item.specs.{Root.{root_at, root_view}, declared.root.RootInventory.{RootInventory as MadeRoot}}
use Rattle.ocfl_item.specs.Ways.{Stops, is_listable, AreInventories, IsAt}
use Rattle.ocfl_tree.specs.declared.store.Kind.TheVariants as kind
use Rattle.ocfl_tree.specs.declared.store.Trouble.TheVariants as trouble
use Rattle.ocfl_inventory.specs.declared.declaration.Level.TheVariants as level
use Rattle.ocfl_inventory.specs.declared.declaration.Declared.TheVariants as made
use Rattle.ocfl_item.specs.declared.fault.Fault.TheVariants as fault
use Rattle.ocfl_item.specs.declared.folder.Head.TheVariants as head

-- the fault if a store did not answer at a place
abbrev pub fault_by : Place → Trouble → Fault
fault_by p trouble.Device = fault.Store p
fault_by p trouble.Absent = fault.Store p
fault_by p trouble.Memory = fault.Memory

-- openings of metadata, each file once
pub record AreMeta (further : Further) (root : StorageRoot) (trail : List Opening) : Type 0 where
  pub meta : content_trail further root trail ≡ []
  pub once : AllPairs (λ a b. a.place ≢ b.place) trail

pub record SeekStops (further : Further) (root : StorageRoot) (s t : Store) (way : List Place) (why : Fault) : Type 0 where
  pub trail : List Opening
  pub stops : Stops further root s t way trail why
  pub meta : AreMeta further root trail

-- from s to t metadata was read, and nothing was listed
pub record ReadsMeta (further : Further) (root : StorageRoot) (s t : Store) : Type 0 where
  pub over : s.tree ≡ root
  pub trail : List Opening
  pub did : Did s t trail [] 0
  pub read : IsMetadataRead further root trail
  pub meta : AreMeta further root trail

-- and of inventories at most that of o, if its head reaches it
pub record Opens (further : Further) (root : StorageRoot) (s t : Store) (o : Place) : Type 0 where
  pub reads : ReadsMeta further root s t
  pub heads : IsFront (heads_of root reads.trail) (on (reads_inventory root o) o)

-- and then there was a fault
pub record OpensStop (further : Further) (root : StorageRoot) (s t : Store) (o : Place) (why : Fault) : Type 0 where
  pub stops : SeekStops further root s t [] why
  pub heads : IsFront (heads_of root stops.trail) (on (reads_inventory root o) o)

abbrev pub is_file_kind : Option Kind → Bool
is_file_kind None = false
is_file_kind (Some kind.File) = true
is_file_kind (Some kind.Dir) = false
is_file_kind (Some kind.Other) = false

-- an object's table, and what its root inventory is if that is asked for, with its inventory read
-- for them, and no other file
pub record ReadsTable (further : Further) (root : StorageRoot) (s t : Store) (o : Place) (r : Result (Option Table × Option MadeRoot) Fault) : Type 0 where
  pub gives : MatchResult r
      (λ read. (opens : Opens further root s t o) × (read.0 ≡ table_at root o) × AreInventories root opens.reads.trail × (option_map root_view read.1 ≡ root_at further root o))
      (λ why. (stop : OpensStop further root s t o why) × AreInventories root stop.stops.trail)

-- the lines of an object's head, its table, and what its root inventory is if that is asked for
abbrev pub IsHeadOf : Further → StorageRoot → Place → PlaceLines × Option Table × Option MadeRoot → Type 0
IsHeadOf further root o p = HasLines p.0 (notes further root None o) × (p.1 ≡ table_at root o) × (option_map root_view p.2 ≡ root_at further root o)

-- no declaration, a known version, or a declaration at which the head stops
abbrev pub head_by : MadeDeclared → Head
head_by made.None = head.Undeclared
head_by (made.One v) = head.Known
head_by (made.Unknown i) = head.Stops
head_by made.Several = head.Stops

-- an object's root that was listed
pub record IsListedObject (root : StorageRoot) (o : Place) (es : List Entry) : Type 0 where
  pub listing : IsListing root o es
  pub zone : zone root o ≡ inside o []

-- an object, and what its declarations were read to be
pub record IsDeclared (root : StorageRoot) (o : Place) (es : List Entry) (d : MadeDeclared) : Type 0 where
  pub listing : IsListing root o es
  pub way : list_all (is_entered root) (beginnings o) ≡ true
  pub listable : is_listable root o ≡ true
  pub zone : zone root o ≡ inside o []
  pub says : meaning level.Object es d ≡ object_declared root o
  pub points : PointsAtOne level.Object es d

-- an object whose head does not stop
pub record IsOpenObject (root : StorageRoot) (o : Place) (es : List Entry) (t : Table) : Type 0 where
  pub here : IsAt root o es
  pub zone : zone root o ≡ inside o []
  pub table : table_at root o ≡ Some t
