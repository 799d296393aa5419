use Rattle.std.proofs.Common.{◌∙◌}
use Rattle.ocfl_accounts.proofs.Memories.{is_among}
use Rattle.ocfl_accounts.proofs.held.is_put.Goals as goal

pub returns : goal.returns
returns c = c.has_cycle.ensures ∙ is_among c.args.accounts.now c.args.cycle
