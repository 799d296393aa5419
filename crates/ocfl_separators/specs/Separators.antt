-- Separators, and their text.
use Rattle.std.specs.Prelude.{ℕ, ◌-◌, ◌==◌, List, [], ◌∷◌, ◌++◌, Option, None, flat_map, slice_get, if◌then◌else◌, All}
use Rattle.ocfl_tree.specs.{Place.{Text, Place, place_cmp}, Name.{IsPlace}, Ascending.{IsAscending}}
use Rattle.ocfl_report.specs.Text.{place_text}

-- places in strictly ascending order
pub record AreSeparators (ps : List Place) : Type 0 where
  pub names : All IsPlace ps
  pub ascend : IsAscending place_cmp ps

-- the text of a place, as report lines write it, and a line feed
abbrev pub part_line : Place → Text
part_line p = place_text p ++ 10 ∷ []

-- a line for each
abbrev pub parts_text : List Place → Text
parts_text ps = flat_map part_line ps

-- where part k, from 1, begins: at the separator before it; the first part has none
abbrev pub start_of_part : List Place → ℕ → Option Place
start_of_part ps k = if k == 1 then None else slice_get ps (k - 2)

-- where it ends: below the next separator; the last part has none
abbrev pub end_of_part : List Place → ℕ → Option Place
end_of_part ps k = slice_get ps (k - 1)
