use Rattle.ocfl_night_laws.proofs.Reasons.{has_reports_is, no_checkpoint_is, older_is, unread_is}
use Rattle.ocfl_night_laws.proofs.refusals.each_refusal_of_a_folder_is_for_its_reason.Goals as goal

pub returns-clause-no_checkpoint : goal.returns-clause-no_checkpoint
returns-clause-no_checkpoint c = λ tells s site plan k. no_checkpoint_is

pub returns-clause-has_reports : goal.returns-clause-has_reports
returns-clause-has_reports c = λ tells s site plan k. has_reports_is

pub returns-clause-unread : goal.returns-clause-unread
returns-clause-unread c = λ tells s site plan k why. unread_is why

pub returns-clause-older : goal.returns-clause-older
returns-clause-older c = λ tells s site plan k cycle. older_is cycle
