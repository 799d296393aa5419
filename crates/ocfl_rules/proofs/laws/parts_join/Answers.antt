use Rattle.ocfl_rules.proofs.PartLaws.{items_join, texts_join, hashed_join, places_join}
use Rattle.ocfl_rules.proofs.laws.parts_join.Goals as goal

pub returns : goal.returns
returns c = record {
  items = λ further root unread separators up. items_join further root separators up unread;
  texts = λ further root unread separators up. texts_join further root separators up unread;
  hashed = hashed_join;
  places = places_join;
}
