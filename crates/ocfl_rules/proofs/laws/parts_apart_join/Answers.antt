use Rattle.ocfl_rules.proofs.ApartLaws.{apart_join, apart_texts, apart_costs, apart_files}
use Rattle.ocfl_rules.proofs.laws.parts_apart_join.Goals as goal

pub returns : goal.returns
returns c = record {
  items = λ further root separators parts up are. apart_join further root parts separators up are;
  texts = λ further root separators parts up are. apart_texts further root parts separators up are;
  costs = λ further root separators parts up are. apart_costs further root parts separators up are;
  files = λ further root separators parts up are. apart_files further root parts separators up are;
}
