use Rattle.std.proofs.Common.{◌≡◌, sym, ap, ◌∙◌}
use denote.Enum.Bare.{same_false}
use Rattle.ocfl_report.specs.contracts.further.Further.{the_type}
use Rattle.ocfl_report.specs.declared.stop.TextStop.TheVariants.{Bad}
use Rattle.ocfl_cursor.specs.Cursor.{Cursor}
use Rattle.ocfl_cursor.proofs.{Options.{passed_on}, StoredLines.{stored_lines_determine}}
use Rattle.ocfl_state.proofs.checkpoint_decoding.read_cursor.Goals as goal

pub returns-in_err-part-clause-bad : goal.returns-in_err-part-clause-bad
returns-in_err-part-clause-bad c = λ e p d h k.
    c.in_err-part.ensures.bad (passed_on c.from_residual.result c.in_err-part.field-0.0 Bad c.from_residual.ensures.1 e) p d h

pub returns-else-eq-clause-bad : goal.returns-else-eq-clause-bad
returns-else-eq-clause-bad c = λ e p d h k.
    let read = c.in_ok-part.ensures.lines in
    let same = stored_lines_determine c.in_ok-part.part p c.in_ok-part.cursor d read.ends h.ends read.keeps h.keeps (sym read.are ∙ h.are) in
    let further : c.further.result ≡ c.args.further = c.further.ensures ∙ ap (λ (x : Cursor). x.further) same.1 ∙ k in
    same_false the_type _ _ (sym c.if-eq.ensures) further
