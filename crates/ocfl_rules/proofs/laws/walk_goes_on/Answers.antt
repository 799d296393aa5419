use Rattle.ocfl_rules.proofs.{WayLaws.{is_closed}, NextLaws.{walk_takes, walk_ends}}
use Rattle.ocfl_rules.proofs.{StackLaws.{stack_starts}, BoundLaws.{lists_the_way}}
use Rattle.ocfl_rules.proofs.laws.walk_goes_on.Goals as goal

pub returns : goal.returns
returns c = record {
  takes = λ further root unread last x. walk_takes further root (is_closed root) unread last x;
  ends = λ further root unread last. walk_ends further root (is_closed root) unread last;
  starts = λ root q. stack_starts root (is_closed root) q;
  way = lists_the_way;
}
