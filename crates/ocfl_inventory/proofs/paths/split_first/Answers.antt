use Rattle.ocfl_inventory.proofs.PathTexts.{cut_first}
use Rattle.ocfl_inventory.proofs.paths.split_first.Goals as goal

pub returns : goal.returns
returns c = cut_first c.args.text.now c.split_once.result c.split_once.ensures.cases
