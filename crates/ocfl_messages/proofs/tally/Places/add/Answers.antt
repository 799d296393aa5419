use Rattle.std.proofs.Common.{Some, refl, ap, sym, ◌∙◌}
use Rattle.ocfl_messages.proofs.Tallies.{grows, stays}
use Rattle.ocfl_messages.proofs.tally.Places.add.Goals as goal

pub returns-then-is_last : goal.returns-then-is_last
returns-then-is_last c = λ ps h. stays c.args.self.now ps c.args.place.now (sym c.is_last.ensures ∙ c.if-is_last.true) h

pub returns : goal.returns
returns c = λ ps h.
    grows c.args.self.now _ ps c.args.place.now (sym c.is_last.ensures ∙ c.if-is_last.false) (ap Some c.in_ok-try_clone.ensures)
    (λ m k. c.add_count-self.ensures m 1 k refl) h
