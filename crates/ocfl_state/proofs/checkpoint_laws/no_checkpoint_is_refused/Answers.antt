use Rattle.ocfl_state.proofs.CheckpointRefusals.{refused_for_memory}
use Rattle.ocfl_state.proofs.checkpoint_laws.no_checkpoint_is_refused.Goals as goal

pub returns : goal.returns
returns c = λ b d h r k. refused_for_memory b d h r k
