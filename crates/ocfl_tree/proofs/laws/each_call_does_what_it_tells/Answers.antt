use Rattle.ocfl_tree.proofs.CallLaws.{call_listed, call_unlisted, call_no_directory, call_no_memory, call_opened, call_unopened, call_no_file, call_read, call_given, call_unread, call_failed, call_nothing_open, call_closed}
use Rattle.ocfl_tree.proofs.laws.each_call_does_what_it_tells.Goals as goal

pub returns : goal.returns
returns c = assumption (call_listed, call_unlisted, call_no_directory, call_no_memory, call_opened, call_unopened, call_no_file, call_read, call_given, call_unread, call_failed, call_nothing_open, call_closed)
