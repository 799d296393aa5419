use Rattle.ocfl_state.proofs.CheckpointTexts.{text_determines}
use Rattle.ocfl_state.proofs.checkpoint_laws.text_determines_the_checkpoint.Goals as goal

pub returns : goal.returns
returns c = text_determines
