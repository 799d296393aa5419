use Rattle.std.proofs.Common.{is_ok}
use Rattle.ocfl_tasks.proofs.doing.perform_opened.Goals as goal

pub returns : goal.returns
returns g c = record {
  done = c.perform_with-performed.result;
  performs = c.perform_with-performed.ensures;
  put = is_ok c.put_cursor-put.result;
  puts = c.put_cursor-put.ensures;
  ends = c.end_of.ensures;
}
