use Rattle.std.proofs.Common.{◌∙◌, ◌||◌, false, ap, refl}
use Rattle.ocfl_report.specs.Line.{line_of}
use Rattle.ocfl_compare.proofs.Summaries.{summary_more}
use Rattle.ocfl_compare.proofs.summary.with_line.Goals as goal

pub returns : goal.returns
returns c = λ own h.
    summary_more c.args.summary (record { absent = false; object = c.either.result; stopped = c.either-2.result; file = c.either-3.result; hidden = c.either-4.result; findings = c.add_code.new.findings; note = c.in_ok-note.note }) own (line_of c.args.line.now) h refl
    (c.either.ensures ∙ ap (λ b. c.args.summary.object || b) c.is_of_object.ensures) (c.either-2.ensures ∙ ap (λ b. c.args.summary.stopped || b) c.is_stop.ensures)
    (c.either-3.ensures ∙ ap (λ b. c.args.summary.file || b) c.is_of_file.ensures) (c.either-4.ensures ∙ ap (λ b. c.args.summary.hidden || b) c.is_hiding.ensures) c.in_ok-add_code.ensures c.in_ok-note.ensures
