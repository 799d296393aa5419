use Rattle.std.proofs.Common.{◌∙◌, ap, map}
use Rattle.ocfl_report.specs.Text.{text}
use Rattle.ocfl_rules.specs.{Audit.{audit, Unread}, Parts.{within}}
use Rattle.ocfl_night_laws.proofs.AnyNights.{one_cycle, joined_reports}
use Rattle.ocfl_night_laws.proofs.nights.a_whole_report_is_the_audit.Goals as goal

pub returns-clause-unread : goal.returns-clause-unread
returns-clause-unread c = λ root rounds d w all.
    let one = one_cycle rounds.further root rounds.part w.led.first w.last w.led.runs all w.led.chain in
    w.report ∙ joined_reports w.led.runs ∙ c.runs_that_stop_join.ensures.ended rounds.further root rounds.part w.led.first (map (λ r. r.run) w.led.runs) w.led.starts one.0 one.1

pub returns-clause-exact : goal.returns-clause-exact
returns-clause-exact c = λ root rounds d w all none.
    let one = one_cycle rounds.further root rounds.part w.led.first w.last w.led.runs all w.led.chain in
    w.report ∙ joined_reports w.led.runs ∙ c.runs_that_stop_join.ensures.ended rounds.further root rounds.part w.led.first (map (λ r. r.run) w.led.runs) w.led.starts one.0 one.1 ∙ ap (λ (u : Unread). text (within rounds.part (audit rounds.further root u))) none
