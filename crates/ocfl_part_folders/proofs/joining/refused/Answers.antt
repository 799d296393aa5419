use Rattle.std.proofs.Common.{Some, ap}
use Rattle.ocfl_part_folders.proofs.joining.refused.Goals as goal

pub returns : goal.returns
returns c = let line = c.in_ok-line.ensures in (line.0, record { status = c.status.ensures; said = ap Some line.1 })
