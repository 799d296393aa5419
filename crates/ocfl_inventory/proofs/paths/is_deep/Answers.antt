use Rattle.std.proofs.Common.{ap, ◌∙◌}
use Rattle.std.specs.Prelude.{◌==◌, count_by}
use Rattle.ocfl_inventory.proofs.PathTexts.{deep_is}
use Rattle.ocfl_inventory.proofs.paths.is_deep.Goals as goal

pub returns : goal.returns
returns c = deep_is c.args.text.now c.slashes.result (c.slashes.ensures ∙ ap (count_by (λ b. b == 47)) c.as_bytes.ensures.value)
