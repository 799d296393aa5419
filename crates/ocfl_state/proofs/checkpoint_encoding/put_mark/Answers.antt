use Rattle.ocfl_state.proofs.CheckpointWriting.{written_mark}
use Rattle.ocfl_state.proofs.checkpoint_encoding.put_mark.Goals as goal

pub returns : goal.returns
returns c = written_mark c.args.mark _ _ _ _ c.in_ok-put_sizes.ensures c.in_ok-put_digest.ensures c.in_ok-put_digest-2.ensures
