use Rattle.std.proofs.Common.{◌≢◌, ◌∷◌, ◌++◌, All, sym, subst, ◌∙◌}
use Rattle.std.proofs.lemmas.List.{append_cancel_left}
use Rattle.ocfl_report.proofs.Separators.{separator_is_there}
use Rattle.ocfl_state.proofs.checkpoint_fields.split_line.Goals as goal

pub returns-clause-missing : goal.returns-clause-missing
returns-clause-missing c = λ e f r g.
    let after = c.in_ok-after_prefix.field-0.now in
    let same = append_cancel_left c.args.front.now after (f ++ 10 ∷ r) (sym c.in_ok-after_prefix.ensures.found ∙ g) in
    separator_is_there 10 f r (subst (All (λ b. b ≢ 10)) same (c.split_once.ensures.missing e))
