use Rattle.ocfl_rules.proofs.{WayLaws.{is_closed}, MachineLaws.{from_root, taken_from, lists_from}}
use Rattle.ocfl_rules.proofs.laws.walk_over_a_stack.Goals as goal

pub returns : goal.returns
returns c = record {
  first = λ further root unread. from_root further root (is_closed root) unread;
  lists = λ root k q. lists_from root (is_closed root) k q;
  rest = λ further root unread k q. taken_from further root (is_closed root) unread k q;
}
