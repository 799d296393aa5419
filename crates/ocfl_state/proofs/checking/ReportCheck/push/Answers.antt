use Rattle.std.proofs.Common.{arith}
use Rattle.ocfl_state.specs.Pieces.{no_pieces}
use Rattle.ocfl_state.proofs.checking.ReportCheck.push.Goals as goal

pub returns : goal.returns
returns c = λ mark report checks short. record {
  same = checks.same;
  carried = c.push_from.ensures.1 no_pieces 0 0 report checks.carried (omega (arith, short)) (omega (arith, short));
  tailed = omega (arith, c.push_from.ensures.0, checks.tailed);
}
