-- Going through the paths of a table.
use Rattle.std.specs.{Prelude.{Option, Some, None, find, slice_get}, Ordering.{is_lt}}
use Rattle.ocfl_tree.specs.Place.{Place, place_cmp}
use Rattle.ocfl_inventory.specs.Table.{Table, paths_of}

-- the first path of a table above a place, of all paths for none; the paths ascend, so that it is
-- the least of these
abbrev pub next_path : Table → Option Place → Option Place
next_path t None = slice_get (paths_of t) 0
next_path t (Some q) = find (λ p. is_lt (place_cmp q p)) (paths_of t)
