use Rattle.ocfl_tree.proofs.CallLaws.{listed_none_failed, unlisted_failed, absent_none_failed, memory_none_failed, opened_none_failed, unopened_none_failed, read_none_failed, unread_none_failed, closed_none_failed, each_failure_is_told}
use Rattle.ocfl_tree.proofs.laws.failed_listings_are_told.Goals as goal

pub returns : goal.returns
returns c = assumption (listed_none_failed, unlisted_failed, absent_none_failed, memory_none_failed, opened_none_failed, unopened_none_failed, read_none_failed, unread_none_failed, closed_none_failed, each_failure_is_told)
