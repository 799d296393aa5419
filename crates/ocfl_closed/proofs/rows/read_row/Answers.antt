use Rattle.std.proofs.Common.{refl}
use Rattle.ocfl_closed.proofs.RowTexts.{no_such_word, no_tab_in_row}
use Rattle.ocfl_closed.proofs.rows.read_row.Goals as goal

pub returns-in_default-clause-bad : goal.returns-in_default-clause-bad
returns-in_default-clause-bad c = λ _. no_tab_in_row c.args.row.now (c.in_default.ensures.missing refl)

pub returns-in_default-change_of-clause-bad : goal.returns-in_default-change_of-clause-bad
returns-in_default-change_of-clause-bad c = λ _. no_such_word c.args.row.now c.in-Some.word.now c.in-Some.rest.now c.in-Some.ensures.found c.in-Some.ensures.first (c.in_default-change_of.ensures.none refl)
