use Rattle.std.specs.Prelude.{string_bytes}
use Rattle.std.proofs.Common.{◌≡◌}
use Rattle.ocfl_tree.specs.Path.{joined}
use Rattle.ocfl_tree.proofs.Paths.{place_joined}
use Rattle.ocfl_tree.proofs.place.Place.join.Goals as goal

pub invariant_of-result : goal.invariant_of-result
invariant_of-result c =
    let made = rw c.in_ok-join.was at c.join.ensures in
    let path : string_bytes c.in_ok-join.field-0 ≡ joined (string_bytes c.self.inside.path) (string_bytes c.more.inside.path) = cc in
    place_joined (string_bytes c.self.inside.path) (string_bytes c.more.inside.path) (string_bytes c.in_ok-join.field-0) path c.self.invariant c.more.invariant
