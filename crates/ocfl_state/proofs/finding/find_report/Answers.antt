use Rattle.std.proofs.Common.{subst, take}
use Rattle.ocfl_state.specs.{Content.{Content}, Pieces.{Carries}}
use Rattle.ocfl_state.proofs.FoundReports.{found_whole, found_lost, begun_carried, begun_is_found}
use Rattle.ocfl_state.proofs.finding.find_report.Goals as goal

pub returns-in-Some-clause-whole : goal.returns-in-Some-clause-whole
returns-in-Some-clause-whole g c = λ told. found_whole c.args.mark.now _ c.in_ok-digests.field-0 c.in-Some.digests c.in-Some.is (c.in_ok-digests.ensures.found told)

pub returns-in-Some-clause-carried : goal.returns-in-Some-clause-carried
returns-in-Some-clause-carried g c = λ told text same begins.
    begun_carried c.args.mark.now text _ same begins c.in_ok-digests.field-0 c.in-Some.digests c.in-Some.is (c.in_ok-digests.ensures.carried told)

pub returns-in_ok-digests_of_front-in-None-clause-whole : goal.returns-in_ok-digests_of_front-in-None-clause-whole
returns-in_ok-digests_of_front-in-None-clause-whole g c = λ told. found_lost c.args.mark.now _ c.in_ok-digests.field-0 c.in_ok-digests_of_front-in-None.field-0 c.in-None.is (c.in_ok-digests.ensures.found told)

pub returns-in_ok-digests_of_front-in-None-clause-carried : goal.returns-in_ok-digests_of_front-in-None-clause-carried
returns-in_ok-digests_of_front-in-None-clause-carried g c = λ told text same begins.
    absurd (begun_is_found c.args.mark.now text _ same begins c.in_ok-digests.field-0 c.in-None.is (c.in_ok-digests.ensures.found told))

pub returns-in_ok-digests_of_front-in-None-clause-lost : goal.returns-in_ok-digests_of_front-in-None-clause-lost
returns-in_ok-digests_of_front-in-None-clause-lost g c = λ told.
    subst (λ (s : Content). Carries c.in_ok-digests_of_front-in-None.field-0 (take c.args.mark.now.bytes s.report)) (c.resume_digests.ensures.seen told) (c.in_ok-digests_of_front-in-None.ensures.carried told)
