use Rattle.std.proofs.Common.{true≢false}
use Rattle.ocfl_arguments.proofs.reading.task_of.Goals as goal

pub returns-in_ok-task_with-in-Some-2 : goal.returns-in_ok-task_with-in-Some-2
returns-in_ok-task_with-in-Some-2 c = record {
  found = c.in_ok-task_with-in-Some-2.ensures c.args.name.now (rw c.in-Some.is at c.in_ok-deed.ensures.found) (rw c.in-Some-2.is at c.in_ok-chosen.ensures.found);
  missing = λ none _ _. true≢false none;
}
