use Rattle.std.proofs.Common.{sym, ◌∙◌, arith}
use Rattle.ocfl_tree.proofs.Places.{text_eq-Decides}
use Rattle.ocfl_report.proofs.CodeTexts.{no_code}
use Rattle.ocfl_report.proofs.code.read_code.Goals as goal

pub returns-then-is_bytes-clause-some : goal.returns-then-is_bytes-clause-some
returns-then-is_bytes-clause-some c =
    (text_eq-Decides _ _).0 (sym c.is_bytes.ensures ∙ c.if-is_bytes.true) ∙ c.as_bytes.ensures.value ∙ c.text.ensures

pub returns-clause-none : goal.returns-clause-none
returns-clause-none c = λ _. no_code c.args.text.now c.loop-code.code-index c.loop-code.invariant (omega arith)
