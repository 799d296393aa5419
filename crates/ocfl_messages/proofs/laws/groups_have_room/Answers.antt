use Rattle.ocfl_messages.proofs.LineCounts.{groups_fit}
use Rattle.ocfl_messages.proofs.laws.groups_have_room.Goals as goal

pub returns : goal.returns
returns c = λ root room fs few placed. groups_fit root fs room few placed
