use Rattle.std.proofs.Common.{rules}
use Rattle.ocfl_state.proofs.CheckpointRefusals.{passes-text}
use Rattle.ocfl_state.proofs.checkpoint_showing.show_stored.Goals as goal

pub returns-clause-refused : goal.returns-clause-refused
returns-clause-refused c = (search rules, passes-text c.args.text.now (c.in-Ok.checkpoint, c.in-Ok.ensures.checkpoint))
