use Rattle.ocfl_state.proofs.FoundReports.{front_carried}
use Rattle.ocfl_state.proofs.comparing.digests_of_front.Goals as goal

pub returns-clause-carried : goal.returns-clause-carried
returns-clause-carried g c = λ told.
    front_carried _ c.args.most _ c.new-digests.result c.push_report.new.digests c.push_report.ensures.range
    c.new-digests.ensures (c.in_ok-push_report.ensures.pushed told)
