use Rattle.std.proofs.Common.{◌∙◌}
use Rattle.ocfl_item.proofs.BaseLaws.{root_unhashed}
use Rattle.ocfl_item.proofs.base.stopped_item.Goals as goal

pub returns-clause-told : goal.returns-clause-told
returns-clause-told c = λ further root base stops.
    let lines = c.in_ok-lines in
    c.of_lines.ensures.told further root (root_unhashed further root _ lines.lines (lines.ensures.place ∙ base.top) base.says (lines.ensures.lines root stops base.points))
