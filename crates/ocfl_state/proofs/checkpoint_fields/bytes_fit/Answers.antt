use Rattle.std.proofs.Common.{arith}
use Rattle.ocfl_state.proofs.checkpoint_fields.bytes_fit.Goals as goal

pub returns : goal.returns
returns c = λ i. omega (arith, c.type_inv.bytes i)
