use Rattle.std.proofs.Common.{◌++◌, ◌∷◌, [], Err, ap, sym, subst, ◌∙◌}
use Rattle.ocfl_separators.specs.Separators.{AreSeparators}
use Rattle.ocfl_separators.proofs.Orders.{AreSeparators-push}
use Rattle.ocfl_split.proofs.cutting.add.Goals as goal

pub unreachable-requires : goal.unreachable-requires
unreachable-requires c =
    let made = AreSeparators-push c.args.separators.now c.args.place.now c.requires.separators c.every_place_has_names.ensures c.requires.above in
    c.push.ensures.not_above (c.in-Err-NotAbove.is ∙ ap Err c.in-Err-NotAbove.field-0-is) (subst (λ p. AreSeparators (c.args.separators.now ++ p ∷ [])) (sym c.in_ok-try_clone.ensures) made)
