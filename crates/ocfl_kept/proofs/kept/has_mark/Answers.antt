use Rattle.std.proofs.Common.{Some, ap, sym, ◌∙◌, option_map}
use Rattle.std.specs.Prelude.{IsTrue}
use Rattle.ocfl_kept.specs.Keeping.{seen_report}
use Rattle.ocfl_kept.proofs.Readings.{none_marked, one_marked}
use Rattle.ocfl_kept.proofs.kept.has_mark.Goals as goal

pub returns-in_default-clause-value : goal.returns-in_default-clause-value
returns-in_default-clause-value g c = λ shown short.
    let F = g.F.Folder in
    none_marked _ _ (ap (option_map (λ report. seen_report report.whole (F.bytes report))) (sym c.in_default.is) ∙ c.in_ok-report.ensures.value shown)

pub returns-in-Ok-clause-value : goal.returns-in-Ok-clause-value
returns-in-Ok-clause-value g c = λ shown short.
    let F = g.F.Folder in
    let there = ap (option_map (λ report. seen_report report.whole (F.bytes report))) (sym c.in-Some.is) ∙ c.in_ok-report.ensures.value shown in
    let unread = rw c.in-Some.is at (c.in_ok-report.ensures.unread shown) in
    one_marked _ _ c.in-Some.report.whole (F.bytes c.in-Some.report) (F.unread c.in-Some.report) (IsTrue c.in-Ok.is') there unread (λ l. c.in-Ok.ensures shown l) short
