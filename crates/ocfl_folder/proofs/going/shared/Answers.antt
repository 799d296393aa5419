use Rattle.std.proofs.Common.{sym, ◌∙◌, arith}
use Rattle.ocfl_folder.proofs.Ways.{shared_more}
use Rattle.ocfl_folder.proofs.going.shared.Goals as goal

pub loop-i-preserved : goal.loop-i-preserved
loop-i-preserved c =
    shared_more c.args.names.now c.args.others.now c.loop-i.i _ _ _ _ (omega (arith, c.loop-i-test.true)) (omega (arith, c.if-i-others.false)) c.index-names-i.is c.index-others-i.is
    c.as_str.ensures.value c.as_str-else-i-others.ensures.value (sym c.is_text.ensures ∙ c.if-not-is_text.false) c.loop-i.invariant.1
