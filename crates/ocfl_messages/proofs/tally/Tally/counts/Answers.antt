use Rattle.ocfl_messages.specs.Tally.{right_in, wrong_in}
use Rattle.ocfl_messages.proofs.tally.Tally.counts.Goals as goal

pub returns-clause-files : goal.returns-clause-files
returns-clause-files c = λ ls h. c.add_count.ensures (right_in ls) (wrong_in ls) h.right h.wrong.count
