use Rattle.ocfl_cursor.specs.PartRefusal.{AnyPartRefusedRightly}
use Rattle.ocfl_cursor.specs.declared.refused.Refused.TheVariants.{Memory}
use Rattle.ocfl_cursor.proofs.{Options.{IfErr-passed}, PartRefusals.{passes-part_text}}
use Rattle.ocfl_cursor.proofs.showing.lines_of_part.Goals as goal

pub returns-in_err-part_lines-clause-refused : goal.returns-in_err-part_lines-clause-refused
returns-in_err-part_lines-clause-refused c =
    let result = c.from_residual-in_err-part_lines in
    IfErr-passed (AnyPartRefusedRightly c.args.text.now) result.result Memory result.ensures.1
    (passes-part_text c.in_ok-ends.ends c.args.text.now c.in_ok-ends.cursor c.in_ok-ends.ensures.part)

pub returns-clause-lines : goal.returns-clause-lines
returns-clause-lines c =
    record { ends = c.in_ok-ends.ends; cursor = c.in_ok-ends.cursor; is_text = c.in_ok-ends.ensures.part; lines_are = c.in_ok-part_lines.ensures.lines }
