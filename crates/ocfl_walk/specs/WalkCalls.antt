-- What the calls of a walk did to a store that tells its tree: from one place on to another, and
-- down to one place.
use Rattle.std.specs.Prelude.{true, List, [], ◌∷◌, Option, Some, None, IfSome, AllPairs, ◌≡◌, ◌≢◌, filter, slice_get}
use Rattle.ocfl_tree.specs.{Place.{Place}, Ascending.{IsAmong}, StorageRoot.{StorageRoot}}
use Rattle.ocfl_tree.specs.{Store.{Store}, declared.store.Opening.{Opening}}
use Rattle.ocfl_report.specs.declared.further.Further.{Further}
use Rattle.ocfl_rules.specs.Zone.{Zone, skipped, hierarchy, inside, zone}
use Rattle.ocfl_rules.specs.{Between.{looked_between, read_between}, Due.{due}, Trail.{reads_inventory}}
use Rattle.ocfl_rules.specs.Walk.{is_reached}
use Rattle.ocfl_item.specs.{Auditing.{Audits, Fails}, Looking.{IsFront, LiesUpTo, failed_place, way_to}}
use Rattle.ocfl_item.specs.declared.fault.Fault.{Fault}
use Rattle.ocfl_item.specs.declared.fault.Fault.TheVariants as fault
use Rattle.ocfl_walk.specs.{Ends.{before_end}, declared.end.End.{End}}

-- ---- from one place on to another

-- the directories between two places were listed, and the inventories between them read
pub record Walks (further : Further) (root : StorageRoot) (s t : Store) (from to : Option Place) : Type 0 where
  pub trail : List Opening
  pub audits : Audits further root s t [] (looked_between root from to) (read_between root from to) trail

-- the first of these directories were listed, and the first of these objects' inventories read, and
-- then there was a fault. The place at which the store failed lies in no directory after this one, if
-- there is one
pub record FailsAmong (further : Further) (root : StorageRoot) (s t : Store) (looked read : List Place) (to : Option Place) (why : Fault) : Type 0 where
  pub trail : List Opening
  pub listed : List Place
  pub heads : List Place
  pub fails : Fails further root s t [] listed heads trail (failed_place why)
  pub listed_front : IsFront listed looked
  pub heads_front : IsFront heads read
  pub up_to : (q : Place) → why ≡ fault.Store q → LiesUpTo to q

-- the first of those between two places
abbrev pub FailsBetween : Further → StorageRoot → Store → Store → Option Place → Option Place → Fault → Type 0
FailsBetween further root s t from to why = FailsAmong further root s t (looked_between root from to) (read_between root from to) to why

-- the place of the next item above a place, and none if no item is left
abbrev pub next_due : Further → StorageRoot → Option Place → Option Place
next_due further root from = slice_get (due further root from) 0

-- the first of those from a place to the next item's
abbrev pub WalkFails : Further → StorageRoot → Store → Store → Option Place → Fault → Type 0
WalkFails further root s t from why = FailsBetween further root s t from (next_due further root from) why

-- ---- from a place on to the end

-- the directories from a place to the end were listed, and the inventories read
pub record WalksOut (further : Further) (root : StorageRoot) (s t : Store) (from : Option Place) (e : End) : Type 0 where
  pub trail : List Opening
  pub audits : Audits further root s t [] (before_end e (looked_between root from None)) (before_end e (read_between root from None)) trail

-- the first of those up to the next item's place, and then there was a fault
abbrev pub FailsOut : Further → StorageRoot → Store → Store → Option Place → End → Fault → Type 0
FailsOut further root s t from e why =
    FailsAmong further root s t (before_end e (looked_between root from (next_due further root from))) (before_end e (read_between root from (next_due further root from))) (next_due further root from) why

-- ---- down to one place

-- the object that holds a place
abbrev pub holder_of : Zone → List Place
holder_of skipped = []
holder_of hierarchy = []
holder_of (inside o q) = o ∷ []

abbrev pub way_of : Option Place → List Place
way_of None = []
way_of (Some p) = way_to p

-- that object, if its head reaches its inventory
abbrev pub holder : StorageRoot → Option Place → List Place
holder root None = []
holder root (Some p) = filter (reads_inventory root) (holder_of (zone root p))

-- the storage root, and nothing before it
abbrev pub IsRootFirst : List Place → Type 0
IsRootFirst listed = (rest : List Place) × (listed ≡ [] ∷ rest)

-- of these directories those were listed that are entered, and all above them
abbrev pub AreAllListed : StorageRoot → List Place → List Place → Type 0
AreAllListed root dirs listed = (d : Place) → IsAmong dirs d → is_reached root d ≡ true → IsAmong listed d

-- the first directories on the way to a place were listed, the storage root at least and all that
-- are entered, and of inventories at most that of the object that holds it was read, if its head
-- reaches it
pub record GoesDown (further : Further) (root : StorageRoot) (s t : Store) (p : Option Place) : Type 0 where
  pub trail : List Opening
  pub listed : List Place
  pub heads : List Place
  pub audits : Audits further root s t [] listed heads trail
  pub root_first : IfSome p (λ q. IsRootFirst listed)
  pub all_listed : AreAllListed root (way_of p) listed
  pub listed_front : IsFront listed (way_of p)
  pub heads_front : IsFront heads (holder root p)
  pub once : AllPairs (λ a b. a.place ≢ b.place) trail

-- the first of these, and then there was a fault. The store failed only if there was a way to go, and
-- at a place that lies in no directory after the place given
pub record GoDownFails (further : Further) (root : StorageRoot) (s t : Store) (p : Option Place) (why : Fault) : Type 0 where
  pub trail : List Opening
  pub listed : List Place
  pub heads : List Place
  pub fails : Fails further root s t [] listed heads trail (failed_place why)
  pub listed_front : IsFront listed (way_of p)
  pub heads_front : IsFront heads (holder root p)
  pub once : AllPairs (λ a b. a.place ≢ b.place) trail
  pub up_to : (q : Place) → why ≡ fault.Store q → (e : Place) × ((p ≡ Some e) × LiesUpTo (Some e) q)
