use Rattle.ocfl_report.specs.declared.stop.TextStop.TheVariants.{Bad}
use Rattle.ocfl_cursor.proofs.{Options.{passed_on}, PartTexts.{before_feed}}
use Rattle.ocfl_cursor.proofs.part_decoding.read_end.Goals as goal

pub returns-in_err-read_end_text-clause-bad : goal.returns-in_err-read_end_text-clause-bad
returns-in_err-read_end_text-clause-bad c = λ e end rest h f.
    let parts = before_feed c.args.front.now c.args.word.now c.args.text.now c.in-Some.line.now c.in-Some-split_once.end.now
    c.in-Some-split_once.rest.now end rest c.requires.one_line h c.in-Some.ensures.found c.in-Some-split_once.ensures.found c.in-Some-split_once.ensures.first f in
    c.in_err-read_end_text.ensures.bad (passed_on c.from_residual.result c.in_err-read_end_text.field-0.0 Bad c.from_residual.ensures.1 e) end h parts.0
