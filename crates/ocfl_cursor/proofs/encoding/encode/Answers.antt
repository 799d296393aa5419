use Rattle.std.proofs.{Common.{◌++◌, ap, ap₂, ◌∙◌}, lemmas.Result.{IfOk-weaker}}
use Rattle.ocfl_tree.specs.Place.{Text}
use Rattle.ocfl_cursor.specs.Cursor.{cursor_first_line, digest_line}
use Rattle.ocfl_cursor.proofs.encoding.encode.Goals as goal

pub returns-clause-text : goal.returns-clause-text
returns-clause-text c =
    let lines = c.deref.ensures.value ∙ c.in_ok-lines.ensures.lines in
    let first = c.first_line.ensures ∙ ap cursor_first_line c.further.ensures in
    let body = ap₂ (λ (s t : Text). s ++ t) first lines in
    IfOk-weaker c.sealed_text.result _ _ (λ text h. h ∙ ap (λ (t : Text). t ++ digest_line t) body) c.sealed_text.ensures
