use Rattle.std.proofs.Common.{sym, ap, ◌∙◌}
use Rattle.ocfl_report.specs.declared.stop.TextStop.TheVariants.{Bad}
use Rattle.ocfl_cursor.specs.Lines.{stored_lines}
use Rattle.ocfl_cursor.proofs.Options.{passed_on}
use Rattle.ocfl_state.specs.declared.checkpoint_account.Account.{Account}
use Rattle.ocfl_state.proofs.CheckpointTexts.{lefts_determine}
use Rattle.ocfl_state.proofs.checkpoint_decoding.read_parts.Goals as goal

pub returns-in_err-path-clause-bad : goal.returns-in_err-path-clause-bad
returns-in_err-path-clause-bad c = λ e d h.
    c.in_err-path.ensures.bad (passed_on c.from_residual.result c.in_err-path.field-0.0 Bad c.from_residual.ensures.1 e) d.root.path h.keeps.root.path h.path

pub returns-in_err-left-clause-bad : goal.returns-in_err-left-clause-bad
returns-in_err-left-clause-bad c = λ e d h.
    let result = c.from_residual-in_err-left in
    c.in_err-left.ensures.bad (passed_on result.result c.in_err-left.field-0.0 Bad result.ensures.1 e) d.left (stored_lines d.part d.cursor) h.keeps.left
    (sym (ap (λ (x : Account). x.left) h.account)) h.rest

pub returns-in_err-part-clause-bad : goal.returns-in_err-part-clause-bad
returns-in_err-part-clause-bad c = λ e d h.
    let result = c.from_residual-in_err-part in
    let read = c.in_ok-left in
    let same = lefts_determine read.left.items d.left read.lines.now (stored_lines d.part d.cursor) read.ensures.names h.keeps.left
    (read.ensures.count ∙ ap (λ (x : Account). x.left) h.account) (sym read.ensures.found ∙ h.rest) in
    c.in_err-part.ensures.bad (passed_on result.result c.in_err-part.field-0.0 Bad result.ensures.1 e) d.part d.cursor (record { ends = h.keeps.part; keeps = h.keeps.cursor; are = same.1 }) (sym h.further)
