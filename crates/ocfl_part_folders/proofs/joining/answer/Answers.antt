use Rattle.ocfl_files.proofs.Failures.{made_so}
use Rattle.ocfl_part_folders.specs.Joining.{SaysUnread}
use Rattle.ocfl_part_folders.proofs.joining.answer.Goals as goal

pub returns-in-Err : goal.returns-in-Err
returns-in-Err c = rw c.in-Err.is (made_so (SaysUnread c.in-Err.stop) c.unread.result c.made.result c.made.ensures c.unread.ensures.said)
