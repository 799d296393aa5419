use Rattle.ocfl_state.proofs.Resuming.{reads_rest}
use Rattle.ocfl_state.proofs.comparing.digests_of_tail.Goals as goal

pub returns-clause-carried : goal.returns-clause-carried
returns-clause-carried g c = λ told.
    reads_rest c.args.summary.now _ _ c.after-digests.result c.push_report.new.digests c.push_report.ensures.range c.after-digests.ensures.carried c.after-digests.ensures.tailed (c.in_ok-push_report.ensures.pushed told)
