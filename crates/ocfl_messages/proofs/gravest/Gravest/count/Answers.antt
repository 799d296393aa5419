use Rattle.ocfl_messages.proofs.Heaps.{counted}
use Rattle.ocfl_messages.proofs.gravest.Gravest.count.Goals as goal

pub returns : goal.returns
returns c = λ ls h l. cc (counted c.args.self.now ls h l, c.wide.ensures.value, c.wide-2.ensures.value, c.wide-3.ensures.value, c.wide-4.ensures.value)
