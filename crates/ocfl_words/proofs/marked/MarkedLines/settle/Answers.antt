use Rattle.std.proofs.Common.{◌∙◌, ap}
use Rattle.std.proofs.lemmas.Result.{on_ok_weaker}
use Rattle.ocfl_words.proofs.Settling.{settles}
use Rattle.ocfl_words.proofs.marked.MarkedLines.settle.Goals as goal

pub returns : goal.returns
returns c = on_ok_weaker c.gather.result
    (λ gathers m h. settles c.args.self.now _ m c.replace-waiting.result c.replace-waiting.ensures.value (ap (λ v. v.items) c.replace-waiting.ensures.after ∙ c.new.ensures.items) gathers h)
    c.gather.ensures
