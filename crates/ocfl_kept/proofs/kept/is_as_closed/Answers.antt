use Rattle.std.proofs.Common.{Some, ap, subst, ◌∙◌, Option}
use Rattle.ocfl_state.specs.Checkpoint.{Checkpoint}
use Rattle.ocfl_kept.specs.Keeping.{IsKept}
use Rattle.ocfl_kept.proofs.Readings.{by_nothing, by_none, closed_so}
use Rattle.ocfl_kept.proofs.kept.is_as_closed.Goals as goal

pub returns-clause-value : goal.returns-clause-value
returns-clause-value g c = λ shown short.
    let F = g.F.Folder in
    closed_so c.has_mark.result (F.holding c.args.folder.now) (F.holding c.read_kept.new.folder) c.args.cycle c.in_ok-kept.field-0 c.in-Some-kept.checkpoint c.checkpoint.inside.report (ap (λ (k : Checkpoint). k.report) c.checkpoint.view_is) (c.read_kept.ensures.same shown) (c.in_ok-kept.ensures.value shown) (c.in-Some.is ∙ ap Some c.in-Some-kept.is)
    (c.has_mark.ensures.value shown) short
