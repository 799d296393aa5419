use Rattle.std.proofs.Common.{sym, subst}
use Rattle.ocfl_digest.specs.Bounded.{IsBoundedTo}
use Rattle.ocfl_item.proofs.HeadLaws.{long_is_other}
use Rattle.ocfl_item.proofs.declarations.is_file.Goals as goal

pub returns-in-Over : goal.returns-in-Over
returns-in-Over c = λ text h short. sym (long_is_other text c.args.bytes.now 4096 (subst (IsBoundedTo 4096 text) c.in-Over.is h) short)
