-- The object that holds a place, and an entry that is met in it.
use Rattle.std.specs.Prelude.{◌≡◌, ⊤, List, [], ◌∷◌, ◌++◌, true, Option, Some, None, drop, length, option_map}
use Rattle.ocfl_tree.specs.{Place.{Place}, Ascending.{IsAmong}, StorageRoot.{StorageRoot}}
use Rattle.ocfl_tree.specs.{Listing.{kind_at, kind_in}, declared.store.Entry.{Entry}}
use Rattle.ocfl_report.specs.declared.further.Further.{Further}
use Rattle.ocfl_report.specs.declared.further.Further.TheVariants.{Nothing, Inventories}
use Rattle.ocfl_inventory.specs.Table.{paths_of}
use Rattle.ocfl_digest.specs.declared.algorithm.Algorithm.TheVariants.{Sha256, Sha512}
use Rattle.ocfl_rules.specs.{Zone.{hierarchy, inside, zone, table_at, inventory_name}, Walk.{is_reached}}
use Rattle.ocfl_rules.specs.Head.{sidecar_name}
use Rattle.ocfl_item.specs.{declared.meeting.Around.{Around}, Root.{root_at, root_view}}

-- the table of the object that holds a place, if there is one, and what that object's root inventory
-- is if that is asked for
abbrev pub IsTableAround : Further → StorageRoot → Place → Option Around → Type 0
IsTableAround further root p None = (o s : Place) → zone root p ≡ inside o s → table_at root o ≡ None
IsTableAround further root p (Some a) =
    (s : Place) × (zone root p ≡ inside a.place s) × (table_at root a.place ≡ Some a.table) × (option_map root_view a.root ≡ root_at further root a.place)

-- which part of the root a directory that is entered is in
abbrev pub IsPart : Further → StorageRoot → Place → Option Around → Type 0
IsPart further root d None = zone root d ≡ hierarchy
IsPart further root d (Some a) =
    (s : Place) × (zone root d ≡ inside a.place s) × (table_at root a.place ≡ Some a.table) × (option_map root_view a.root ≡ root_at further root a.place)

-- an entry that is next, and the part of the root that its directory is in
pub record IsMet (further : Further) (root : StorageRoot) (d : Place) (around : Option Around) (entry : Entry) (e : Place) : Type 0 where
  pub is : e ≡ d ++ entry.name ∷ []
  pub reached : is_reached root d ≡ true
  pub part : IsPart further root d around
  pub kind : kind_at root d entry.name ≡ Some entry.kind

-- some entries of d tell of each sidecar whether it is there, and what it is
abbrev pub TellOfSidecars : StorageRoot → Place → List Entry → Type 0
TellOfSidecars root d es = (kind_in es (sidecar_name Sha256) ≡ kind_at root d (sidecar_name Sha256)) × (kind_in es (sidecar_name Sha512) ≡ kind_at root d (sidecar_name Sha512))

-- what is asked of the entries behind one in its directory: if the inventories of versions are
-- checked, those behind an inventory tell of its sidecars
abbrev pub AreBehind : Further → StorageRoot → Place → Entry → List Entry → Type 0
AreBehind Nothing root d entry behind = ⊤
AreBehind Inventories root d entry behind = entry.name ≡ inventory_name → TellOfSidecars root d behind

-- the table of the object that holds a place names it
abbrev pub IsNamedIn : Place → Option Around → Type 0
IsNamedIn p None = ⊥
IsNamedIn p (Some a) = IsAmong (paths_of a.table) (drop (length a.place) p)
