use Rattle.ocfl_rules.proofs.{PublicLaws.{by_name}, WalkLaws.{item_here, names_ascend}}
use Rattle.ocfl_rules.proofs.laws.items_go_by_name.Goals as goal

pub returns : goal.returns
returns c = record {
  by_name = by_name;
  names = names_ascend;
  here = λ further root unread d. item_here further root unread d;
}
