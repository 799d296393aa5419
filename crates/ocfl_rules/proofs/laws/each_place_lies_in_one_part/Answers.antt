use Rattle.ocfl_rules.proofs.PartLaws.{one_more, lies_once}
use Rattle.ocfl_rules.proofs.laws.each_place_lies_in_one_part.Goals as goal

pub returns : goal.returns
returns c = record { number = one_more; one = λ separators p up. lies_once p separators up }
