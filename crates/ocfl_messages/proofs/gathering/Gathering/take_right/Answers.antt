use Rattle.std.proofs.Common.{length, refl}
use Rattle.ocfl_messages.proofs.Gathered.{right_on}
use Rattle.ocfl_messages.proofs.gathering.Gathering.take_right.Goals as goal

pub returns-clause-taken : goal.returns-clause-taken
returns-clause-taken c = λ says fs s ls few are h.
    right_on says c.args.self.now _ fs s ls are h (λ m k. c.add_count-self.ensures m (length ls) k few) refl refl refl refl
