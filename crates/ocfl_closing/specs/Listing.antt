-- Which of the objects that must be there are in the part of a state folder.
use Rattle.std.specs.Prelude.{List, Option, Some, None}
use Rattle.ocfl_tree.specs.Place.{Place}
use Rattle.ocfl_cursor.specs.declared.ends.PartEnds.{PartEnds}
use Rattle.ocfl_joining.specs.Within.{places_within}

-- all of them, if it is of a whole storage root
abbrev pub places_in : Option PartEnds → List Place → List Place
places_in None ps = ps
places_in (Some ends) ps = places_within ends.from ends.below ps
