use Rattle.std.proofs.Common.{arith}
use Rattle.ocfl_inventory.proofs.SharedFronts.{last_alike}
use Rattle.ocfl_inventory.proofs.conflicts.may_begin.Goals as goal

pub returns : goal.returns
returns c = λ h. last_alike c.args.path.now c.args.other.now c.saturating_sub-from.result _ _ c.eq.result (omega arith) (omega arith) (omega arith) c.eq.ensures h
