use Rattle.ocfl_closed.proofs.Marks.{is_decided}
use Rattle.ocfl_closed.proofs.marking.is_same.Goals as goal

pub returns : goal.returns
returns c = is_decided c.args.mark.now c.args.found.now c.are_equal.result c.are_equal.ensures
