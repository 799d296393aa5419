use Rattle.std.proofs.{Common.{◌+◌, subst, arith}, lemmas.List.{take_all}}
use Rattle.ocfl_state.specs.{Content.{Bytes}, Pieces.{Pushes}}
use Rattle.ocfl_state.proofs.PieceLaws.{pushes_slice}
use Rattle.ocfl_state.proofs.pieces.ReportDigests.push_from.Goals as goal

pub loop-done-preserved : goal.loop-done-preserved
loop-done-preserved c = (
  omega (arith, c.loop-done.invariant.0, c.loop-done-test.true, c.min.ensures),
  pushes_slice c.args.bytes.now c.loop-done.done (c.loop-done.done + c.min.result) c.args.self.now c.loop-done.self c.push_within.new.self (omega arith) c.loop-done.invariant.1 c.push_within.ensures,
)

pub returns : goal.returns
returns c = subst (λ (xs : Bytes). Pushes xs c.args.self.now c.loop-done.self) (take_all c.loop-done.done c.args.bytes.now (omega (arith, c.loop-done-test.false))) c.loop-done.invariant.1
