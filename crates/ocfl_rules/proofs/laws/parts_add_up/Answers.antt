use Rattle.ocfl_rules.proofs.PartLaws.{costs_add_up, files_add_up}
use Rattle.ocfl_rules.proofs.laws.parts_add_up.Goals as goal

pub returns : goal.returns
returns c = record { costs = costs_add_up; files = files_add_up }
