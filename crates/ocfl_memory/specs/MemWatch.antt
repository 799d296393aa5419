-- What the watch of a system in memory tells.
use Rattle.std.specs.Prelude.{ℕ, ◌+◌, List, [], None, length}
use Rattle.ocfl_tree.specs.{Place.{Place}, Store.{Store, failed_openings}}
use Rattle.ocfl_tree.specs.declared.store.Opening.{Opening}

-- these openings and listings, of which those failed, and the largest read that was asked: each
-- failure is that of an opening or of a listing
abbrev pub watched : List Opening → List Place → List Place → ℕ → Store
watched openings listings failed largest = record {
  tree = [];
  rest = None;
  openings = openings;
  listings = listings;
  failed_listings = failed;
  failures = failed_openings openings + length failed;
  largest = largest;
}
