-- Calls that did the same to two stores.
use Rattle.std.specs.Prelude.{◌≡◌, ℕ, ◌+◌, List, ◌++◌, Option}
use Rattle.ocfl_tree.specs.{Place.{Text, Place}, Store.{Store}, declared.store.Opening.{Opening}}

-- what calls added to what a store tells, and what they left of the open file and of the largest
-- read
pub record Added : Type 0 where
  pub openings : List Opening
  pub listings : List Place
  pub failed : List Place
  pub failures : ℕ
  pub rest : Option Text
  pub largest : ℕ

abbrev pub with_added : Added → Store → Store
with_added d s = record {
  tree = s.tree;
  rest = d.rest;
  openings = s.openings ++ d.openings;
  listings = s.listings ++ d.listings;
  failed_listings = s.failed_listings ++ d.failed;
  failures = s.failures + d.failures;
  largest = d.largest;
}

-- what was done from s to t to one store was done from a to b to another
pub record IsAlike (s t a b : Store) : Type 0 where
  pub added : Added
  pub here : t ≡ with_added added s
  pub there : b ≡ with_added added a
