use Rattle.ocfl_cursor.proofs.PartLimited.{only_memory_stops}
use Rattle.ocfl_cursor.proofs.laws.no_stored_part_is_refused.Goals as goal

pub returns : goal.returns
returns c = λ b e d h few why k. only_memory_stops b e d h few why k
