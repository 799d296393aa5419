-- A file that is read piece by piece.
use Rattle.std.specs.Prelude.{◌≡◌, ◌++◌, length, Some, [], ◌∷◌, false}
use Rattle.ocfl_tree.specs.{Place.{Text, Place}, StorageRoot.{file, at}, Store.{Store, Did}}
use Rattle.ocfl_tree.specs.Calls.{opening}

-- from s to t the file at p was opened, and gave these bytes
pub record IsReading (s t : Store) (p : Place) (given : Text) : Type 0 where
  pub left : Text
  pub is_file : at s.tree p ≡ Some (file (given ++ left))
  pub rest : t.rest ≡ Some left
  pub did : Did s t (opening p (length given) false ∷ []) [] 0
