-- The parts that separators make, by their numbers and by their ends.
use Rattle.std.specs.Prelude.{◌≡◌, ℕ, zero, suc, List, [], ◌∷◌, Option, Some, None, slice_get}
use Rattle.ocfl_tree.specs.Place.{Text, Place}
use Rattle.ocfl_rules.specs.Parts.{Part, parts_of}
use Rattle.ocfl_cursor.specs.declared.ends.PartEnds.{PartEnds}
use Rattle.ocfl_separators.specs.Parts.{IsPartsText}

-- the part that has these ends
abbrev pub part_between : PartEnds → Part
part_between e = record { under = []; from = e.from; below = e.below }

-- the part with this number, from 1, of those that separators make
abbrev pub part_numbered : List Place → ℕ → Option Part
part_numbered separators zero = None
part_numbered separators (suc i) = slice_get (parts_of separators) i

-- the bytes are the text of separators, and these are the ends of that part of theirs
pub record IsPartOf (b : Text) (number : ℕ) (e : PartEnds) : Type 0 where
  pub separators : List Place
  pub text : IsPartsText b separators
  pub is : part_numbered separators number ≡ Some (part_between e)

-- the bytes are the text of separators, and there is no such part
pub record HasNoSuchPart (b : Text) (number : ℕ) : Type 0 where
  pub separators : List Place
  pub text : IsPartsText b separators
  pub none : part_numbered separators number ≡ None

-- these are the ends of the parts from this number on, and there are no more
abbrev pub AreAllFrom : Text → ℕ → List PartEnds → Type 0
AreAllFrom b number [] = HasNoSuchPart b number
AreAllFrom b number (e ∷ ends) = IsPartOf b number e × AreAllFrom b (suc number) ends
