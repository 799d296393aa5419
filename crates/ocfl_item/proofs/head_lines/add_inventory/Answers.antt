use Rattle.ocfl_item.proofs.LinesLaws.{adds_two}
use Rattle.ocfl_item.proofs.head_lines.add_inventory.Goals as goal

pub returns-clause-lines : goal.returns-clause-lines
returns-clause-lines c = λ root o files.
    adds_two c.args.lines.now c.add_sidecars.new.lines c.add_read.new.lines c.add_read.result _ _ (c.in_ok-add_sidecars.ensures.lines root o files) (c.add_read.ensures.lines root o files)
