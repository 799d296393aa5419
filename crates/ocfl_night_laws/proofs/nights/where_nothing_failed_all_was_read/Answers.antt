use Rattle.ocfl_night_laws.proofs.AnyNights.{all_read}
use Rattle.ocfl_night_laws.proofs.nights.where_nothing_failed_all_was_read.Goals as goal

pub returns : goal.returns
returns c = all_read
