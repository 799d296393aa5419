use Rattle.ocfl_inventory.proofs.SidecarLaws.{sidecar_is}
use Rattle.ocfl_inventory.proofs.laws.sidecar_meets_the_grammar.Goals as goal

pub returns : goal.returns
returns c b a d = sidecar_is b a d
