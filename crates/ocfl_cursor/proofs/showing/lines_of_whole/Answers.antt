use Rattle.ocfl_cursor.specs.Refusal.{RefusedRightly}
use Rattle.ocfl_cursor.specs.declared.refused.Refused.TheVariants.{Memory}
use Rattle.ocfl_cursor.proofs.{Options.{IfErr-passed}, Refusals.{passes-cursor_text}}
use Rattle.ocfl_cursor.proofs.showing.lines_of_whole.Goals as goal

pub returns-in_err-cursor_lines-clause-refused : goal.returns-in_err-cursor_lines-clause-refused
returns-in_err-cursor_lines-clause-refused c =
    let result = c.from_residual-in_err-cursor_lines in
    IfErr-passed (RefusedRightly c.args.text.now) result.result Memory result.ensures.1 (passes-cursor_text c.args.text.now (c.in_ok-cursor.cursor, c.in_ok-cursor.ensures.cursor))
