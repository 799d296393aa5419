use Rattle.ocfl_kept.proofs.Readings.{kept_there}
use Rattle.ocfl_kept.proofs.kept.kept_by.Goals as goal

pub returns-clause-value : goal.returns-clause-value
returns-clause-value c = kept_there c.args.bytes c.in-Some.bytes c.deref.result.now c.in_ok-checkpoint_of.field-0 c.in-Some.is c.deref.ensures.value c.in_ok-checkpoint_of.ensures
