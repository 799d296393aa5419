use Rattle.std.proofs.Common.{◌∙◌, false, refl, sym}
use Rattle.std.proofs.lemmas.Result.{on_ok_weaker}
use Rattle.ocfl_report.specs.Line.{line_of}
use Rattle.ocfl_words.proofs.Settling.{passed, waits}
use Rattle.ocfl_words.proofs.marked.MarkedLines.put.Goals as goal

pub returns-then-passes : goal.returns-then-passes
returns-then-passes c = on_ok_weaker c.pass.result (λ pass m h. passed c.args.self.now _ m (line_of c.args.line.now) (sym (c.passes.ensures m h) ∙ c.if-passes.true) refl pass h) c.pass.ensures

pub returns : goal.returns
returns c = λ m h. waits c.args.self.now _ m _ (line_of c.args.line.now) (sym (c.passes.ensures m h) ∙ c.if-passes.false) (λ i. record { line = c.in_ok-copy_of.ensures i; is_said = false }) c.in_ok-push.ensures.items refl h
