use Rattle.std.proofs.Common.{Some, ◌∙◌, ap}
use Rattle.ocfl_folder.proofs.Ways.{climbed}
use Rattle.ocfl_folder.proofs.going.climb.Goals as goal

pub loop-preserved : goal.loop-preserved
loop-preserved g c = (
  λ told. c.step_up.ensures.store told ∙ c.loop.invariant.0 told,
  λ told p is few. c.in_ok-step_up.ensures.here told _ _ (c.loop.invariant.1 told p is few ∙ ap Some (climbed p c.args.count c.loop.counter c.loop-test.true few)),
)
