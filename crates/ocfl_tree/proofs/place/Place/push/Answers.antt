use Rattle.std.specs.Prelude.{string_bytes}
use Rattle.ocfl_tree.proofs.Paths.{name_pushed, place_pushed}
use Rattle.ocfl_tree.proofs.place.Place.push.Goals as goal

pub invariant_of-self : goal.invariant_of-self
invariant_of-self c =
    let ok = rw c.as_str.ensures.value at c.push.ensures.ok in
    place_pushed c.push.result (string_bytes c.self.inside.path) (string_bytes c.push.new.path) c.args.name ok c.push.ensures.err c.self.invariant c.as_str.ensures.name

pub returns-clause-ok : goal.returns-clause-ok
returns-clause-ok c =
    let ok = rw c.as_str.ensures.value at c.push.ensures.ok in
    rw (← c.self.view_is) (name_pushed c.push.result (string_bytes c.self.inside.path) (string_bytes c.push.new.path) c.args.name ok c.as_str.ensures.name)
