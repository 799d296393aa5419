use Rattle.std.proofs.Common.{sym, ◌∙◌}
use Rattle.ocfl_closed.specs.Files.{kept_of}
use Rattle.ocfl_closed.proofs.Backing.{back_in, none_in_lost}
use Rattle.ocfl_closed.proofs.accounting.find_returned.Goals as goal

pub returns-then-is_lost-clause-back : goal.returns-then-is_lost-clause-back
returns-then-is_lost-clause-back g c = λ told.
    none_in_lost (kept_of (g.D.ClosedDisk.state c.args.disk.now).files) c.args.pair.now c.new.result.items (sym c.is_lost.ensures ∙ c.if-is_lost.true) c.new.ensures.items

pub returns-clause-back : goal.returns-clause-back
returns-clause-back g c = λ told.
    back_in c.find_back.result (kept_of (g.D.ClosedDisk.state c.args.disk.now).files) c.args.pair.now (sym c.is_lost.ensures ∙ c.if-is_lost.false) (c.find_back.ensures.back told)
