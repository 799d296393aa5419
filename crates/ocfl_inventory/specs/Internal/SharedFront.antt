-- Triples whose paths begin with the same bytes.
use Rattle.std.specs.Prelude.{◌≡◌, ℕ, ◌++◌, drop}
use Rattle.ocfl_tree.specs.{Place.{Text}, Path.{elements, names_of, slashed}}
use Rattle.ocfl_inventory.specs.Table.{Triple}

-- a triple whose path begins with these bytes
pub record IsBelow (front : Text) (t : Triple) : Type 0 where
  pub rest : Text
  pub whole : slashed t.path ≡ front ++ rest
  pub known : names_of (slashed t.path) ≡ t.path

-- a triple without the first n bytes of its path
abbrev pub behind : ℕ → Triple → Triple
behind n t = record { path = elements (drop n (slashed t.path)); named = t.named }
