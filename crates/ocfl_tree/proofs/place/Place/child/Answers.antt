use Rattle.std.specs.Prelude.{string_bytes}
use Rattle.std.proofs.Common.{◌≡◌}
use Rattle.ocfl_tree.specs.Path.{joined}
use Rattle.ocfl_tree.proofs.Paths.{place_child}
use Rattle.ocfl_tree.proofs.place.Place.child.Goals as goal

pub invariant_of-result : goal.invariant_of-result
invariant_of-result c =
    let made = rw c.in_ok-join.was at c.join.ensures in
    let path : string_bytes c.in_ok-join.field-0 ≡ joined (string_bytes c.self.inside.path) c.args.name.now = cc in
    place_child (string_bytes c.self.inside.path) c.args.name.now (string_bytes c.in_ok-join.field-0) path c.self.invariant c.as_str-2.ensures.name
