use Rattle.ocfl_item.proofs.StopLaws.{only_content_failed, no_hashed_file_stops, last_call_failed}
use Rattle.ocfl_item.proofs.laws.stops_name_the_call_that_failed.Goals as goal

pub returns : goal.returns
returns c = assumption (only_content_failed, no_hashed_file_stops, last_call_failed)
