use Rattle.ocfl_speaking.proofs.Passes.{passed_right}
use Rattle.ocfl_speaking.proofs.laws.lines_that_are_passed_are_right.Goals as goal

pub returns : goal.returns
returns c = passed_right
