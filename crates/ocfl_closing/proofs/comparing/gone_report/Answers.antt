use Rattle.std.proofs.{Common.{◌∙◌, append_assoc}, lemmas.Result.{IfOk-weaker}}
use Rattle.ocfl_files.proofs.Failures.{saying_so}
use Rattle.ocfl_closing.specs.Comparing.{gone_text}
use Rattle.ocfl_closing.proofs.comparing.gone_report.Goals as goal

pub returns : goal.returns
returns c = saying_so c.format.result c.saying.result (gone_text c.args.state.now c.args.cycle) c.saying.ensures
    (IfOk-weaker c.format.result _ _ (λ s h. h ∙ simp append_assoc) c.format.ensures.ok)
