use Rattle.std.proofs.Common.{◌∙◌, sym}
use Rattle.ocfl_disk.proofs.Reporting.{closed_if_whole, closed_if_either}
use Rattle.ocfl_disk.proofs.fs_state.is_closed.Goals as goal

pub returns-then-branch-clause-value : goal.returns-then-branch-clause-value
returns-then-branch-clause-value g c = λ told. closed_if_whole c.args.cycle _ _ (c.has_reports.ensures.calm told) (sym (c.in_ok-has_closed.ensures.value told) ∙ c.if-branch.true)

pub returns-clause-value : goal.returns-clause-value
returns-clause-value g c = λ told. closed_if_either c.args.cycle _ _ _ (c.has_reports.ensures.calm told) (c.has_closed.ensures.calm told) (sym (c.in_ok-has_closed.ensures.value told) ∙ c.if-branch.false) c.has_closed-2.result (c.has_closed-2.ensures.value told)
