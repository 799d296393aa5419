use Rattle.ocfl_scrub.proofs.CycleRuns.{opens_beyond}
use Rattle.ocfl_laws.proofs.parts.what_was_taken_is_not_read_again.Goals as goal

pub returns : goal.returns
returns c = opens_beyond
