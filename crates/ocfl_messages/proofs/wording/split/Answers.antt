use Rattle.ocfl_messages.proofs.Spaces.{split_is}
use Rattle.ocfl_messages.proofs.wording.split.Goals as goal

pub returns : goal.returns
returns c = split_is c.args.text.now c.split_once.result c.split_once.ensures.found c.split_once.ensures.first c.split_once.ensures.missing
