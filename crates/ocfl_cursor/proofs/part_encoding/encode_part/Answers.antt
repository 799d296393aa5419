use Rattle.std.proofs.Common.{◌++◌, sym, ap, ap₂, ◌∙◌, append_assoc}
use Rattle.std.proofs.lemmas.Result.{IfOk-weaker}
use Rattle.ocfl_tree.specs.Place.{Text}
use Rattle.ocfl_cursor.specs.{Cursor.{cursor_lines, digest_line}, Part.{ends_lines, part_first_line}}
use Rattle.ocfl_cursor.proofs.part_encoding.encode_part.Goals as goal

pub returns-clause-text : goal.returns-clause-text
returns-clause-text c =
    let first = c.part_first_line.ensures ∙ ap part_first_line c.further.ensures in
    let lines = ap₂ (λ (s t : Text). s ++ t) first (c.deref.ensures.value ∙ c.in_ok-lines.ensures.lines) in
    let body = lines ∙ sym (append_assoc (part_first_line c.args.cursor.now.further) (ends_lines c.args.ends.now) (cursor_lines c.args.cursor.now)) in
    IfOk-weaker c.sealed_text.result _ _ (λ text h. h ∙ ap (λ (t : Text). t ++ digest_line t) body) c.sealed_text.ensures
