-- The entry at a place: the listings on the way to it, of each what is above it.
use Rattle.std.specs.Prelude.{◌≡◌, ◌≤◌, ℕ, List, [], ◌∷◌, ◌++◌, Bool, not, false, Option, Some, None, Result, MatchOption, MatchResult, length, filter, option_map}
use Rattle.std.specs.List.{AllByRecursion}
use Rattle.ocfl_tree.specs.{Place.{Text, Place}, StorageRoot.{StorageRoot, max_entries}}
use Rattle.ocfl_tree.specs.{Store.{Store, Did}, Listing.{IsOrdinary}, declared.store.Entry.{Entry}}
use Rattle.ocfl_tree.specs.declared.store.Opening.{Opening}
use Rattle.ocfl_report.specs.declared.further.Further.{Further}
use Rattle.ocfl_rules.specs.Zone.{Zone, inside, root_declared, zone, table_at, is_known, max_listed_depth}
use Rattle.ocfl_rules.specs.Inventories.{is_hashed}
use Rattle.ocfl_rules.specs.Trail.{content_trail, heads_of, reads_inventory}
use Rattle.ocfl_rules.specs.Walk.{is_reached, step_listed}
use Rattle.ocfl_rules.specs.Stack.{seen_places, seen_left, listed_at, IsListed}
use Rattle.ocfl_item.specs.Looking.{way_to, IsFront, failures_by}
use Rattle.ocfl_item.specs.Auditing.{FailedAt, IsMetadataRead, LieIn}
use Rattle.ocfl_item.specs.Ways.{way_below, is_extensions_name, is_listable, AreInventories, Enters, InHierarchy, IsAt, Stops}
use Rattle.ocfl_item.specs.{Around.{IsTableAround, IsPart}, Meeting.{IsFairFolder}}
use Rattle.ocfl_item.specs.{declared.fault.Fault.{Fault}, declared.folder.Folder.{Folder}}
use Rattle.ocfl_item.specs.{declared.meeting.Around.{Around}, Root.{root_at, root_view}}
use Rattle.ocfl_walk.specs.WalkCalls.{AreAllListed, IsRootFirst, holder_of}
use Rattle.ocfl_walk.specs.Standing.{Pile, frames_of, HaveEntries}
use Rattle.ocfl_walk.specs.Internal.Standing.{IsChain, IsAroundIf}
use Rattle.ocfl_item.specs.declared.fault.Fault.TheVariants as fault

-- ---- what was done

-- whose inventory may still be opened on the way to a place
abbrev pub may_open : Option Around → Zone → List Place
may_open None z = holder_of z
may_open (Some a) z = []

-- each inventory that was opened is that of an object whose head reaches it
abbrev pub AreReached : StorageRoot → List Opening → Type 0
AreReached root trail = heads_of root trail ≡ filter (reads_inventory root) (heads_of root trail)

-- from s to t directories were listed and metadata was read, of inventories only those that heads
-- reach
pub record Calls (further : Further) (root : StorageRoot) (s t : Store) (failures : ℕ) : Type 0 where
  pub over : s.tree ≡ root
  pub trail : List Opening
  pub listings : List Place
  pub did : Did s t trail listings failures
  pub read : failures ≡ 0 → IsMetadataRead further root trail
  pub meta : content_trail further root trail ≡ []
  pub reached : AreReached root trail

-- a fault of the store names the place at which the last call failed
abbrev pub NamesFailed : (further : Further) (root : StorageRoot) (s t : Store) (why : Fault) → Calls further root s t (failures_by why) → Type 0
NamesFailed further root s t why calls = (q : Place) → why ≡ fault.Store q → (is_hashed further root q ≡ false) × FailedAt further root s t calls.listings calls.trail q

-- from s to t directories of a way were listed in order, with more of it left, and the inventories
-- of some objects were read in order, right in these directories, with more of them left, and
-- nothing else
pub record Descends (further : Further) (root : StorageRoot) (s t : Store) (way more may left : List Place) (failures : ℕ) : Type 0 where
  pub calls : Calls further root s t failures
  pub only : AreInventories root calls.trail
  pub listed : IsFront (calls.listings ++ more) way
  pub heads : IsFront (heads_of root calls.trail ++ left) may
  pub near : LieIn further root calls.listings calls.trail

-- and of the directories of the way that are entered each was listed, or is among those left
pub record Comes (further : Further) (root : StorageRoot) (s t : Store) (way more may left : List Place) : Type 0 where
  pub goes : Descends further root s t way more may left 0
  pub all : AreAllListed root way (goes.calls.listings ++ more)

-- and then there was a fault
pub record DescendFails (further : Further) (root : StorageRoot) (s t : Store) (way may : List Place) (why : Fault) : Type 0 where
  pub goes : Descends further root s t way [] may [] (failures_by why)
  pub store : NamesFailed further root s t why goes.calls

-- ---- the storage root

-- it was listed, and its version is known or not
pub record ListsRoot (further : Further) (root : StorageRoot) (s t : Store) (r : Result (Option Folder) Fault) : Type 0 where
  pub gives : MatchResult r
      (λ next. Did s t [] ([] ∷ []) 0
      × MatchOption next (is_known (root_declared root) ≡ false) (λ base. InHierarchy root base.place base.entries.items))
      (λ why. Stops further root s t ([] ∷ []) [] why)

-- ---- the table of an object

-- from s to t at most the inventory of o was opened, right in o, and nothing was listed
pub record OpensIn (further : Further) (root : StorageRoot) (s t : Store) (o : Place) (failures : ℕ) : Type 0 where
  pub calls : Calls further root s t failures
  pub only : AreInventories root calls.trail
  pub unlisted : calls.listings ≡ []
  pub heads : IsFront (heads_of root calls.trail ++ []) (o ∷ [])
  pub near : LieIn further root (o ∷ []) calls.trail

-- and then there was a fault
pub record OpensInFails (further : Further) (root : StorageRoot) (s t : Store) (o : Place) (why : Fault) : Type 0 where
  pub goes : OpensIn further root s t o (failures_by why)
  pub store : NamesFailed further root s t why goes.calls

-- an object was opened, and has a table or not
pub record Opens (further : Further) (root : StorageRoot) (s t : Store) (o : Place) (r : Result (Option Around) Fault) : Type 0 where
  pub gives : MatchResult r
      (λ next. OpensIn further root s t o 0
      × MatchOption next (table_at root o ≡ None) (λ a. (a.place ≡ o) × (table_at root o ≡ Some a.table) × (option_map root_view a.root ≡ root_at further root o)))
      (λ why. OpensInFails further root s t o why)

-- ---- one name further

-- it was not listed since it cannot be
pub record StaysOut (root : StorageRoot) (s t : Store) (d : Place) : Type 0 where
  pub did : Did s t [] [] 0
  pub closed : is_listable root d ≡ false

-- whether a name leads on from d: in an object by its table, else unless it is the storage root's
-- extensions
abbrev pub LeadsOn : StorageRoot → Place → Text → Option Around → Bool → Type 0
LeadsOn root d n None on = on ≡ not (is_extensions_name d n)
LeadsOn root d n (Some a) on = (s : Place) → zone root d ≡ inside a.place s → table_at root a.place ≡ Some a.table → on ≡ step_listed a.table s n

-- from d, of the storage hierarchy, the directory of a name that leads on was listed
pub record ListsBelow (root : StorageRoot) (s t : Store) (d : Place) (n : Text) (f : Folder) : Type 0 where
  pub over : s.tree ≡ root
  pub entries : List Entry
  pub above : InHierarchy root d entries
  pub on : is_extensions_name d n ≡ false
  pub enters : Enters root s t (d ++ n ∷ []) f.place f.entries.items
  pub ordinary : IsOrdinary f.entries.items

-- on any store: the directory that was listed, and the object around it, which else stays
abbrev pub IsFairWay : Place → Text → Option Around → Option Around → Option Folder → Type 0
IsFairWay d n old new o = MatchOption o (new ≡ old) (λ f. IsFairFolder (d ++ n ∷ []) f × IsAroundIf (d ++ n ∷ []) new)

-- if it is not entered, all below it has the table of what is around it, if there is one
pub record IsShut (further : Further) (root : StorageRoot) (d : Place) (n : Text) (r : Place) (around : Option Around) : Type 0 where
  pub out : is_reached root (d ++ n ∷ []) ≡ false
  pub table : IsTableAround further root (d ++ n ∷ r) around

-- if it is entered
pub record IsIn (further : Further) (root : StorageRoot) (e : Place) (f : Folder) (around : Option Around) : Type 0 where
  pub place : f.place ≡ e
  pub here : IsAt root e f.entries.items
  pub part : IsPart further root e around

-- from d by the name n, on the way to d ++ n ∷ r
pub record Leads (further : Further) (root : StorageRoot) (s t : Store) (d : Place) (n : Text) (r : Place) (old new : Option Around) (x : Result (Option Folder) Fault) : Type 0 where
  pub gives : MatchResult x
      (λ next. MatchOption next
      (Comes further root s t (way_below d (n ∷ r)) [] (may_open old (zone root (d ++ n ∷ r))) [] × IsShut further root d n r new)
      (λ f. Comes further root s t (way_below d (n ∷ r)) (way_below (d ++ n ∷ []) r) (may_open old (zone root (d ++ n ∷ r))) (may_open new (zone root (d ++ n ∷ r))) × IsIn further root (d ++ n ∷ []) f new))
      (λ why. DescendFails further root s t (way_below d (n ∷ r)) (may_open old (zone root (d ++ n ∷ r))) why)

-- ---- the whole way

-- on any store: a directory that was listed, and what was kept of those above it
pub record IsComing (d : Place) (es : List Entry) (ps : List Pile) (around : Option Around) : Type 0 where
  pub chain : IsChain d (length d) (frames_of ps)
  pub short : length d ≤ max_listed_depth
  pub ordinary : IsOrdinary es
  pub few : AllByRecursion (λ p. length p.1 ≤ max_entries) ps
  pub object : IsAroundIf d around

-- the listings from d to d ++ q, on top of others
pub record IsBrought (further : Further) (root : StorageRoot) (d q : Place) (old new : List Pile) (around : Option Around) : Type 0 where
  pub stack : seen_left (seen_places root) (frames_of new) ≡ seen_left (seen_places root) (listed_at root d q (frames_of old))
  pub listed : IsListed root (frames_of old) → IsListed root (frames_of new)
  pub entries : HaveEntries root old → HaveEntries root new
  pub table : IsTableAround further root (d ++ q) around

-- the start of a walk: the storage root and at most the directories on the way to p were listed,
-- each once and all that are entered, and at most the inventory of the object that holds p was
-- opened, once, if its head reaches it
pub record Starts (further : Further) (root : StorageRoot) (s t : Store) (p : Place) : Type 0 where
  pub comes : Comes further root s t (way_to p) [] (holder_of (zone root p)) []
  pub root_first : IsRootFirst comes.goes.calls.listings

abbrev pub StartFails : Further → StorageRoot → Store → Store → Place → Fault → Type 0
StartFails further root s t p why = DescendFails further root s t (way_to p) (holder_of (zone root p)) why
