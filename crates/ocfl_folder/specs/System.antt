-- What a system that tells its tree tells, and what its calls show of that.
use Rattle.std.specs.Prelude.{◌≡◌, ◌≢◌, ◌↔◌, Bool, true, false, List, [], ◌∷◌, Option, Some, None}
use Rattle.ocfl_tree.specs.{Place.{Text, Place}, Ascending.{IsAmong}}
use Rattle.ocfl_tree.specs.{StorageRoot.{StorageRoot, dir, at}, Store.{Store}, Listing.{kind_at}}

pub record Standing : Type 0 where
  -- what is in the folder, and the calls of the folder that were noted
  pub store : Store
  -- the directory that it is in, if that is one of the folder
  pub here : Option Place

-- of a system that is in the folder: P holds of its tree and of the place
abbrev pub IfHere : Standing → (StorageRoot → Place → Type 0) → Type 0
IfHere s P = (p : Place) → s.here ≡ Some p → P s.store.tree p

-- these are the names in the directory at a place, in any order
pub record AreNames (root : StorageRoot) (p : Place) (names : List Text) : Type 0 where
  pub directory : at root p ≡ Some dir
  pub each : (n : Text) → IsAmong names n ↔ (kind_at root p n ≢ None)

-- the next name of a listing, or its end
abbrev pub Gives : Bool → List Text → Text → List Text → Type 0
Gives true names n left = names ≡ n ∷ left
Gives false names n left = names ≡ []
