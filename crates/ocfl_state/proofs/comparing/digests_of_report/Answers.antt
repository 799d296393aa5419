use Rattle.std.proofs.Common.{ap}
use Rattle.ocfl_state.specs.Content.{Content}
use Rattle.ocfl_state.proofs.Readings.{whole_carried}
use Rattle.ocfl_state.proofs.comparing.digests_of_report.Goals as goal

pub returns-clause-carried : goal.returns-clause-carried
returns-clause-carried g c = λ told.
    whole_carried _ _ c.in_ok-end.end _ c.up_to-digests.result c.push_report.new.digests
    (ap (λ (s : Content). s.report) (c.in_ok-end.ensures.seen told)) (c.in_ok-end.ensures.value told) c.push_report.ensures.range
    c.up_to-digests.ensures.carried c.up_to-digests.ensures.tailed (c.in_ok-push_report.ensures.pushed told)
