use Rattle.std.proofs.Common.{◌∙◌, ap}
use Rattle.serde_json.proofs.Views.{view-lookup}
use Rattle.serde_json.specs.View.{view}
use Rattle.std.specs.Prelude.{option_map}
use Rattle.ocfl_inventory.proofs.Members.{others_stay}
use Rattle.ocfl_inventory.proofs.block.take_member.Goals as goal

pub returns-clause-value : goal.returns-clause-value
returns-clause-value c = ap (option_map view) c.remove.ensures.value ∙ view-lookup c.args.name.now c.args.map.now.entries

pub returns-clause-others : goal.returns-clause-others
returns-clause-others c = λ q apart. others_stay q c.args.name.now c.args.map.now.entries c.remove.new.self.entries apart c.remove.ensures.entries
