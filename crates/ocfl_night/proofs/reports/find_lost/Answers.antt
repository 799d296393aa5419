use Rattle.std.proofs.Common.{refl, take}
use Rattle.ocfl_state.specs.Pieces.{Carries, HasTail}
use Rattle.ocfl_night.proofs.Lost.{not_lost, lost_has, lost_has_none, whole_has_tail}
use Rattle.ocfl_night.proofs.reports.find_lost.Goals as goal

pub returns-in-Whole-clause-lost : goal.returns-in-Whole-clause-lost
returns-in-Whole-clause-lost g c = λ told.
    let tail = whole_has_tail c.in_ok-find_report.field-0 _ (HasTail c.args.mark.now (g.S.StateFolder.seen c.args.folder.now).report) c.in-Whole.is (c.in_ok-find_report.ensures.whole told) in
    ((λ is. absurd (cc is)), (λ changed. absurd (changed tail)))

pub returns-in-Lost-clause-lost : goal.returns-in-Lost-clause-lost
returns-in-Lost-clause-lost g c = λ told.
    ((λ is. lost_has_none c.in_ok-find_report.field-0 _ (HasTail c.args.mark.now (g.S.StateFolder.seen c.args.folder.now).report) c.in-Lost.is (c.in_ok-find_report.ensures.whole told)), (λ changed. refl))

pub returns-in-Lost-clause-kept : goal.returns-in-Lost-clause-kept
returns-in-Lost-clause-kept g c = λ told front. absurd (not_lost c.in_ok-find_report.field-0 c.in-Lost.digests _ c.in-Lost.is (c.in_ok-find_report.ensures.carried told front.text front.is front.begins))

pub returns-in-Lost-clause-there : goal.returns-in-Lost-clause-there
returns-in-Lost-clause-there g c = λ told.
    let report = take c.args.mark.now.bytes (g.S.StateFolder.seen c.args.folder.now).report in
    c.summary.ensures report (lost_has c.in_ok-find_report.field-0 c.in-Lost.digests (λ d. Carries d report) c.in-Lost.is (c.in_ok-find_report.ensures.lost told))
