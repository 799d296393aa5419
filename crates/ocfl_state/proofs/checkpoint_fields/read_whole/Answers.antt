use Rattle.ocfl_state.proofs.CheckpointFields.{no_whole}
use Rattle.ocfl_state.proofs.checkpoint_fields.read_whole.Goals as goal

pub returns-clause-missing : goal.returns-clause-missing
returns-clause-missing c = λ none whole f. no_whole c.args.word.now whole (c.is_first.ensures.missing none) f
