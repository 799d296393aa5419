use Rattle.std.proofs.Common.{refl}
use Rattle.ocfl_state.proofs.CheckpointFields.{no_phase}
use Rattle.ocfl_state.proofs.checkpoint_fields.read_phase.Goals as goal

pub returns-in_err-is_first-clause-missing : goal.returns-in_err-is_first-clause-missing
returns-in_err-is_first-clause-missing c = λ _ p f. no_phase c.args.word.now p (c.in_err-is_first.ensures.missing refl) f
