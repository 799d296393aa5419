use Rattle.std.proofs.Common.{arith}
use Rattle.ocfl_terminal.proofs.absolute.is_absolute.Goals as goal

pub returns : goal.returns
returns c = c.starts_with.ensures.byte (omega arith) (omega arith) (λ w o h. h)
