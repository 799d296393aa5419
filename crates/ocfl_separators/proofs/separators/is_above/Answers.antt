use Rattle.std.proofs.Common.{sym, ap, ◌∙◌}
use Rattle.std.specs.{Option.{option_copied}, Ordering.{is_lt}}
use Rattle.ocfl_separators.proofs.Orders.{ends_in, above_last, AreSeparators-had}
use Rattle.ocfl_separators.proofs.separators.is_above.Goals as goal

pub returns-in-Some : goal.returns-in-Some
returns-in-Some c =
    let places = c.args.places.now in
    let last = ends_in places c.in-Some.last.now (sym c.last.ensures.value ∙ ap option_copied c.in-Some.is) in
    above_last c.is_lt.result places last.0 c.in-Some.last.now c.args.place.now last.1 (c.is_lt.ensures ∙ ap is_lt c.cmp.ensures) (AreSeparators-had places c.requires.ascend).ascend
