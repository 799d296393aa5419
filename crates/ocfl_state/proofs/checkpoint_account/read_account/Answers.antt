use Rattle.std.proofs.Common.{refl, sym, codes, ◌∙◌}
use Rattle.ocfl_state.proofs.CheckpointTexts.{mark_determines, count_line_determines}
use Rattle.ocfl_state.proofs.checkpoint_account.read_account.Goals as goal

pub returns-in_err-said-clause-missing : goal.returns-in_err-said-clause-missing
returns-in_err-said-clause-missing c = λ e a rest h f.
    let first = mark_determines c.in_ok-report.report a.report c.in_ok-report.rest.now _ c.in_ok-report.ensures.fits h.report (sym c.in_ok-report.ensures.found ∙ f) in
    c.in_err-said.ensures.missing refl a.said _ h.said first.1

pub returns-in_err-left-clause-missing : goal.returns-in_err-left-clause-missing
returns-in_err-left-clause-missing c = λ e a rest h f.
    let first = mark_determines c.in_ok-report.report a.report c.in_ok-report.rest.now _ c.in_ok-report.ensures.fits h.report (sym c.in_ok-report.ensures.found ∙ f) in
    let second = count_line_determines (codes "told ") c.in_ok-said.said a.said c.in_ok-said.rest.now _ c.in_ok-said.ensures.fits h.said (sym c.in_ok-said.ensures.found ∙ first.1) in
    c.in_err-left.ensures.missing refl a.left rest h.left second.1
