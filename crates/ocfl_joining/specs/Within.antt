-- Which places are in a part.
use Rattle.std.specs.Prelude.{◌&&◌, Bool, Option, List, [], ◌∷◌, filter, if◌then◌else◌}
use Rattle.ocfl_tree.specs.Place.{Place}
use Rattle.ocfl_rules.specs.Parts.{is_below, is_from}

abbrev pub is_within : Option Place → Option Place → Place → Bool
is_within from below p = is_from from p && is_below below p

abbrev pub place_if : Bool → Place → List Place
place_if is p = if is then p ∷ [] else []

-- those of a list that are in the part with these ends
abbrev pub places_within : Option Place → Option Place → List Place → List Place
places_within from below ps = filter (is_within from below) ps
