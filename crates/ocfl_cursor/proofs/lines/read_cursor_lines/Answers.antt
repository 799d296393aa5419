use Rattle.std.proofs.{Common.{sym, subst}, lemmas.Result.{IfOk-weaker}}
use Rattle.ocfl_cursor.specs.Internal.Body.{AreLinesOf}
use Rattle.ocfl_cursor.proofs.StoredLines.{stored_from_version, version_from_stored}
use Rattle.ocfl_cursor.proofs.lines.read_cursor_lines.Goals as goal

pub returns-clause-lines : goal.returns-clause-lines
returns-clause-lines c =
    IfOk-weaker c.read_lines.result _ _
    (λ d h. stored_from_version c.further_told.result c.args.lines.now d (subst (λ v. AreLinesOf v c.args.lines.now d) c.version_of.ensures h)) c.read_lines.ensures.cursor

pub returns-clause-bad : goal.returns-clause-bad
returns-clause-bad c = λ e d h.
    c.read_lines.ensures.bad e d
    (subst (λ v. AreLinesOf v c.args.lines.now d) (sym c.version_of.ensures) (version_from_stored c.further_told.result c.args.lines.now d c.further_told.ensures h))
