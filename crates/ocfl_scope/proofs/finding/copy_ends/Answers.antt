use Rattle.std.proofs.Common.{◌≡◌, ◌∙◌, sym, refl, true, false}
use Rattle.ocfl_scope.proofs.NumberedLaws.{ends_there, none_else}
use Rattle.ocfl_scope.proofs.finding.copy_ends.Goals as goal

pub returns-in_default : goal.returns-in_default
returns-in_default c = sym (none_else c.args.separators.now c.args.number (λ h. let there : false ≡ true = c.in_default.ensures.there.1 h in absurd cc))

pub returns : goal.returns
returns c =
    let ends = c.in-Some.ensures in
    ends_there c.args.separators.now c.args.number _ (c.in_ok-from.ensures ∙ ends.start) (c.in_ok-below.ensures ∙ ends.end) (ends.there.0 refl)
