-- What each call does to what a store tells.
use Rattle.std.specs.Prelude.{◌≡◌, ◌≢◌, ℕ, ◌+◌, ◌<◌, Bool, true, false, List, [], ◌∷◌, ◌++◌, length, Some, None}
use Rattle.ocfl_tree.specs.{Place.{Text, Place}, StorageRoot.{file, dir, at}, Listing.{IsListing}}
use Rattle.ocfl_tree.specs.{Store.{Store, Did}, declared.store.Entry.{Entry}}
use Rattle.ocfl_tree.specs.{declared.store.Opening.{Opening}, declared.store.Trouble.{Trouble}}
use Rattle.ocfl_tree.specs.declared.store.Trouble.TheVariants.{Device, Absent, Memory}

abbrev pub opening : Place → ℕ → Bool → Opening
opening p given failed = record { place = p; given = given; failed = failed }

-- by how much a trouble raises the count of failures
abbrev pub failures_of : Trouble → ℕ
failures_of Device = 1
failures_of Absent = 0
failures_of Memory = 0

-- the list if the device failed, and else nothing
abbrev pub if_device : {A : Type 0} → Trouble → List A → List A
if_device Device xs = xs
if_device Absent xs = []
if_device Memory xs = []

-- a trouble adds to the lists only if the device failed, and leaves no file open
pub record Fails (s t : Store) (openings : List Opening) (listings : List Place) (trouble : Trouble) : Type 0 where
  pub did : Did s t (if_device trouble openings) (if_device trouble listings) (failures_of trouble)
  pub closed : t.rest ≡ None
  pub largest : t.largest ≡ s.largest

pub record Lists (s t : Store) (p : Place) (es : List Entry) : Type 0 where
  pub entries : IsListing s.tree p es
  pub did : Did s t [] (p ∷ []) 0
  pub rest : t.rest ≡ s.rest
  pub largest : t.largest ≡ s.largest

pub record ListFails (s t : Store) (p : Place) (trouble : Trouble) : Type 0 where
  pub fails : Fails s t [] (p ∷ []) trouble
  pub absent : trouble ≡ Absent → at s.tree p ≢ Some dir

pub record Opens (s t : Store) (p : Place) : Type 0 where
  pub bytes : Text
  pub is_file : at s.tree p ≡ Some (file bytes)
  pub rest : t.rest ≡ Some bytes
  pub did : Did s t (opening p 0 false ∷ []) [] 0
  pub largest : t.largest ≡ s.largest

pub record OpenFails (s t : Store) (p : Place) (trouble : Trouble) : Type 0 where
  pub fails : Fails s t (opening p 0 true ∷ []) [] trouble
  pub absent : trouble ≡ Absent → (bytes : Text) → at s.tree p ≢ Some (file bytes)

-- the list with its last element changed
abbrev pub change_last : {A : Type 0} → (A → A) → List A → List A
change_last f [] = []
change_last f (x ∷ []) = f x ∷ []
change_last f (x ∷ y ∷ ys) = x ∷ change_last f (y ∷ ys)

-- an opening that gave n more bytes
abbrev pub with_given : ℕ → Opening → Opening
with_given n o = record o { given = o.given + n }

abbrev pub with_failure : Opening → Opening
with_failure o = record o { failed = true }

-- a read of these bytes into a buffer with this room
pub record Reads (s t : Store) (bytes : Text) (room : ℕ) : Type 0 where
  pub left : Text
  pub before : s.rest ≡ Some (bytes ++ left)
  pub after : t.rest ≡ Some left
  pub end : bytes ≡ [] → 0 < room → left ≡ []
  pub tree : t.tree ≡ s.tree
  pub openings_are : t.openings ≡ change_last (with_given (length bytes)) s.openings
  pub listings_are : t.listings ≡ s.listings
  pub failed_are : t.failed_listings ≡ s.failed_listings
  pub failures_are : t.failures ≡ s.failures

-- without an open file a read answers `Absent`, and only then
pub record ReadFails (s t : Store) (trouble : Trouble) : Type 0 where
  pub tree : t.tree ≡ s.tree
  pub closed : t.rest ≡ None
  pub listings_are : t.listings ≡ s.listings
  pub failed_listings_are : t.failed_listings ≡ s.failed_listings
  pub failures_are : t.failures ≡ s.failures + failures_of trouble
  pub absent : trouble ≡ Absent → (s.rest ≡ None) × (t.openings ≡ s.openings)
  pub device : trouble ≡ Device → (s.rest ≢ None) × (t.openings ≡ change_last with_failure s.openings)

pub record Closes (s t : Store) : Type 0 where
  pub did : Did s t [] [] 0
  pub closed : t.rest ≡ None
  pub largest : t.largest ≡ s.largest
