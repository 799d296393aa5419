-- What is met at one place of a store that tells its tree.
use Rattle.std.specs.Prelude.{AllPairs, ◌≡◌, ◌≢◌, ◌≤◌, List, [], true, false, Option, Some, None, MatchOption, MatchResult, IfSome, Result, length, option_map}
use Rattle.ocfl_tree.specs.{Place.{Place}, StorageRoot.{StorageRoot}, Store.{Store, Did}}
use Rattle.ocfl_tree.specs.{Listing.{IsListing, IsOrdinary}, declared.store.Opening.{Opening}}
use Rattle.ocfl_report.specs.declared.further.Further.{Further}
use Rattle.ocfl_report.specs.declared.further.Further.TheVariants.{Nothing, Inventories}
use Rattle.ocfl_inventory.specs.Table.{IsFit, Table}
use Rattle.ocfl_rules.specs.Zone.{inside, zone, table_at, max_listed_depth}
use Rattle.ocfl_rules.specs.Inventories.{notes, is_hashed}
use Rattle.ocfl_rules.specs.Head.{on}
use Rattle.ocfl_rules.specs.Trail.{content_trail, heads_of, is_head, reads_inventory}
use Rattle.ocfl_rules.specs.Between.{is_looked_into}
use Rattle.ocfl_rules.specs.Walk.{is_reached, seen_names}
use Rattle.ocfl_item.specs.Auditing.{FailedAt, IsMetadataRead, LieIn, LiesBeside}
use Rattle.ocfl_tree.specs.Ascending.{IsAmong}
use Rattle.ocfl_item.specs.{Looking.{IsFront, LiesUpTo, failures_by}, Pending.{IsPending}, Root.{root_at, root_view}}
use Rattle.ocfl_item.specs.{declared.fault.Fault.{Fault}, declared.folder.Folder.{Folder}}
use Rattle.ocfl_item.specs.{declared.pending.Pending.{Pending}, declared.visit.Visit.{Visit}}
use Rattle.ocfl_item.specs.declared.fault.Fault.TheVariants as fault

-- what is opened at a place that is neither an object nor the storage root: nothing, but files right
-- beside it if it is the inventory of a version and these are checked
abbrev pub OpensBeside : Further → StorageRoot → Place → List Opening → Type 0
OpensBeside Nothing root e trail = trail ≡ []
OpensBeside Inventories root e trail = (o : Opening) → IsAmong trail o → LiesBeside root e o.place

-- from s to t just what is looked into and read at one place was listed and read: this directory,
-- and the inventory of this object; no file was opened twice, and none but near this directory
pub record Meets (further : Further) (root : StorageRoot) (s t : Store) (e : Place) : Type 0 where
  pub over : s.tree ≡ root
  pub trail : List Opening
  pub listings : List Place
  pub did : Did s t trail listings 0
  pub read : IsMetadataRead further root trail
  pub meta : content_trail further root trail ≡ []
  pub once : AllPairs (λ a b. a.place ≢ b.place) trail
  pub elsewhere : is_head (zone root e) ≡ false → e ≢ [] → OpensBeside further root e trail
  pub listed : listings ≡ on (is_looked_into root e) e
  pub heads : heads_of root trail ≡ on (reads_inventory root e) e
  pub near : LieIn further root listings trail

-- at most this, and then there was a fault. The place at which the store failed lies in no directory
-- after this place
pub record MeetFails (further : Further) (root : StorageRoot) (s t : Store) (e : Place) (why : Fault) : Type 0 where
  pub over : s.tree ≡ root
  pub trail : List Opening
  pub listings : List Place
  pub did : Did s t trail listings (failures_by why)
  pub read : failures_by why ≡ 0 → IsMetadataRead further root trail
  pub meta : content_trail further root trail ≡ []
  pub once : AllPairs (λ a b. a.place ≢ b.place) trail
  pub elsewhere : is_head (zone root e) ≡ false → e ≢ [] → OpensBeside further root e trail
  pub listed : IsFront listings (on (is_looked_into root e) e)
  pub heads : IsFront (heads_of root trail) (on (reads_inventory root e) e)
  pub near : LieIn further root listings trail
  pub store : (q : Place) → why ≡ fault.Store q → (is_hashed further root q ≡ false) × FailedAt further root s t listings trail q
  pub up_to : (q : Place) → why ≡ fault.Store q → LiesUpTo (Some e) q

-- the item of a place, if it has lines
abbrev pub IsItemAt : Further → StorageRoot → Place → Option Pending → Type 0
IsItemAt further root e o = MatchOption o (notes further root None e ≡ []) (λ p. IsPending further root p × (p.place ≡ e))

-- its listing, if it is entered
abbrev pub IsFolderAt : StorageRoot → Place → Option Folder → Type 0
IsFolderAt root e o = MatchOption o (seen_names root e ≡ []) (λ f. (f.place ≡ e) × (is_reached root e ≡ true) × IsListing root e f.entries.items)

-- its table, if it is an object whose head does not stop
abbrev pub IsTableAt : StorageRoot → Place → Option Table → Type 0
IsTableAt root e o = MatchOption o ((is_head (zone root e) ≡ true) → table_at root e ≡ None) (λ t. (zone root e ≡ inside e []) × (table_at root e ≡ Some t))

-- what its root inventory is, if that is asked for and its head does not stop
abbrev pub IsRootAt : Further → StorageRoot → Place → Visit → Type 0
IsRootAt further root e v = IfSome v.table (λ _. option_map root_view v.root ≡ root_at further root e)

pub record IsVisit (further : Further) (root : StorageRoot) (e : Place) (v : Visit) : Type 0 where
  pub item : IsItemAt further root e v.item
  pub folder : IsFolderAt root e v.folder
  pub table : IsTableAt root e v.table
  pub root_inventory : IsRootAt further root e v

pub record Visits (further : Further) (root : StorageRoot) (s t : Store) (e : Place) (r : Result Visit Fault) : Type 0 where
  pub gives : MatchResult r (λ v. Meets further root s t e × IsVisit further root e v) (λ why. MeetFails further root s t e why)

pub record IsFairFolder (e : Place) (f : Folder) : Type 0 where
  pub place : f.place ≡ e
  pub depth : length e ≤ max_listed_depth
  pub entries : IsOrdinary f.entries.items

pub record IsFairVisit (e : Place) (v : Visit) : Type 0 where
  pub item : IfSome v.item (λ p. p.place ≡ e)
  pub folder : IfSome v.folder (λ f. IsFairFolder e f)
  pub table : IfSome v.table (λ t. IsFit t × (length e ≤ max_listed_depth))
