-- What a store that tells its tree tells, what a call did to that, and what holds of such a store.
use Rattle.std.specs.Prelude.{◌≡◌, ℕ, ◌+◌, List, [], ◌++◌, Bool, IsTrue, Option, None, filter, length}
use Rattle.ocfl_tree.specs.{Place.{Text, Place}, Ascending.{IsAmong}, StorageRoot.{StorageRoot}}
use Rattle.ocfl_tree.specs.declared.store.Opening.{Opening}

pub record Store : Type 0 where
  pub tree : StorageRoot
  -- what is left of the open file
  pub rest : Option Text
  -- each opening of a file, with what it gave
  pub openings : List Opening
  pub listings : List Place
  -- those of them in which the device failed
  pub failed_listings : List Place
  -- how often the device has failed
  pub failures : ℕ
  -- the largest read that was asked
  pub largest : ℕ

-- a root with nothing in it, of which nothing was asked
abbrev pub empty_store : Store
empty_store = record { tree = []; rest = None; openings = []; listings = []; failed_listings = []; failures = 0; largest = 0 }

-- of a store that tells its tree, whatever that tree is
abbrev pub IfTold : Bool → Store → (StorageRoot → Type 0) → Type 0
IfTold told s Holds = IsTrue told → (root : StorageRoot) → s.tree ≡ root → Holds root

-- how many of these openings failed
abbrev pub failed_openings : List Opening → ℕ
failed_openings os = length (filter (λ o. o.failed) os)

-- from s to t the tree stayed, and these openings, listings and failures were added; each
-- failure is that of an opening or of a listing, which says so
pub record Did (s t : Store) (openings : List Opening) (listings : List Place) (failures : ℕ) : Type 0 where
  pub tree : t.tree ≡ s.tree
  pub openings_are : t.openings ≡ s.openings ++ openings
  pub listings_are : t.listings ≡ s.listings ++ listings
  pub failures_are : t.failures ≡ s.failures + failures
  -- of these listings those that failed
  pub failed : List Place
  pub failed_are : t.failed_listings ≡ s.failed_listings ++ failed
  pub failed_among : (p : Place) → IsAmong failed p → IsAmong listings p
  pub each_failed : failures ≡ failed_openings openings + length failed
