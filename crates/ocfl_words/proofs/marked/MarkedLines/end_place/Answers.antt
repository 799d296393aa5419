use Rattle.std.proofs.Common.{◌∙◌, cond, ap, subst, sym}
use Rattle.std.proofs.lemmas.Result.{on_ok_weaker}
use Rattle.ocfl_words.specs.Held.{AreMarked, settled}
use Rattle.ocfl_words.proofs.marked.MarkedLines.end_place.Goals as goal

pub returns : goal.returns
returns c = on_ok_weaker c.settle.result
    (λ settles m h. subst (AreMarked c.settle.new.self) (sym (ap (λ b. cond b m (settled m)) (sym (c.waits_at.ensures m h) ∙ c.if-waits_at.false))) (settles m h))
    c.settle.ensures
