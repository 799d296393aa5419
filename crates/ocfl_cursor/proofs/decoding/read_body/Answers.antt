use Rattle.std.proofs.{Common.{refl}, lemmas.Result.{IfOk-weaker}}
use Rattle.ocfl_cursor.proofs.CursorTexts.{body_from_lines, lines_from_body, no_body}
use Rattle.ocfl_cursor.proofs.decoding.read_body.Goals as goal

pub returns-in-Some-clause-cursor : goal.returns-in-Some-clause-cursor
returns-in-Some-clause-cursor c =
    IfOk-weaker c.read_lines.result _ _ (λ d h. body_from_lines c.in-Some.version c.args.body.now c.in-Some.lines.now d c.in-Some.ensures.found h) c.read_lines.ensures.cursor

pub returns-in-Some-clause-bad : goal.returns-in-Some-clause-bad
returns-in-Some-clause-bad c = λ e d h.
    c.read_lines.ensures.bad e d (lines_from_body c.in-Some.version c.args.body.now c.in-Some.lines.now d c.in-Some.ensures.found h)

pub returns-in-None-clause-bad : goal.returns-in-None-clause-bad
returns-in-None-clause-bad c = λ _. no_body c.args.body.now (c.in-None.ensures.missing refl)
