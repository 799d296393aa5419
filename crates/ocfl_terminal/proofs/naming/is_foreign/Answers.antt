use Rattle.std.proofs.Common.{◌∙◌}
use Rattle.ocfl_terminal.proofs.Foreign.{foreign_is}
use Rattle.ocfl_terminal.proofs.naming.is_foreign.Goals as goal

pub returns : goal.returns
returns c = c.is_err.ensures.value ∙ foreign_is c.from_utf8.result _ c.args.name.now c.from_utf8.ensures.cases
