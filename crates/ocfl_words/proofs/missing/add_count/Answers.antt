use Rattle.std.proofs.Common.{arith}
use Rattle.ocfl_words.proofs.missing.add_count.Goals as goal

pub returns : goal.returns
returns c = λ m k h g. omega (arith, h, g, c.saturating_add.ensures)
