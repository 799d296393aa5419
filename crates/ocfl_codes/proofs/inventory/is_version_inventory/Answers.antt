use Rattle.std.proofs.Common.{◌∙◌, sym}
use Rattle.ocfl_codes.proofs.Inventories.{inventory_named, inventory_unnamed}
use Rattle.ocfl_codes.proofs.inventory.is_version_inventory.Goals as goal

pub returns-then-is_text : goal.returns-then-is_text
returns-then-is_text c = c.is_version_path.ensures ∙ inventory_named c.args.place.now _ c.in-Some.name.now c.in-Some.ensures.0 (sym c.is_text.ensures ∙ c.if-is_text.true)

pub returns-else-is_text : goal.returns-else-is_text
returns-else-is_text c = c.if-is_text.false ∙ inventory_unnamed c.args.place.now _ c.in-Some.name.now c.in-Some.ensures.0 (sym c.is_text.ensures ∙ c.if-is_text.false)
