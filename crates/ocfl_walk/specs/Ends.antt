-- Where a walk ends.
use Rattle.std.specs.Prelude.{◌&&◌, ◌||◌, List, Bool, false, not, Option, Some, None, filter}
use Rattle.std.specs.Ordering.{is_lt}
use Rattle.ocfl_tree.specs.Place.{Place, place_cmp, begins}
use Rattle.ocfl_walk.specs.declared.end.End.{End}

-- above a branch: above its place, and no part of it
abbrev pub is_above_branch : Place → Place → Bool
is_above_branch under z = is_lt (place_cmp under z) && not (begins under z)

-- not less than a bound
abbrev pub is_at_bound : Option Place → Place → Bool
is_at_bound None z = false
is_at_bound (Some below) z = not (is_lt (place_cmp z below))

-- above the branch, or not less than the bound
abbrev pub is_past : End → Place → Bool
is_past e z = is_above_branch e.under z || is_at_bound e.below z

-- those of some places that are not past the end
abbrev pub before_end : End → List Place → List Place
before_end e ps = filter (λ z. not (is_past e z)) ps
