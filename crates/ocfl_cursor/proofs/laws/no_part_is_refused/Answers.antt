use Rattle.ocfl_cursor.proofs.PartRefusals.{only_memory}
use Rattle.ocfl_cursor.proofs.laws.no_part_is_refused.Goals as goal

pub returns : goal.returns
returns c = λ b e d h r k. only_memory e b d h r k
