use Rattle.std.proofs.Common.{sym, ap, ◌∙◌}
use Rattle.std.specs.Prelude.{◌&&◌}
use Rattle.ocfl_tree.specs.Place.{text_eq}
use Rattle.ocfl_inventory.proofs.PathTexts.{content_path_from}
use Rattle.ocfl_inventory.proofs.paths.is_content_path.Goals as goal

pub returns-then-is_version_name : goal.returns-then-is_version_name
returns-then-is_version_name c =
    let name = c.in-Some-split_first.name.now in
    c.is_text.ensures
    ∙ sym (content_path_from c.args.content.now c.args.text.now c.in-Some.version.now name c.in-Some.below.now c.in-Some-split_first.field-0-1.now
    c.in-Some.ensures c.in-Some-split_first.ensures ∙ ap (λ b. b && text_eq name c.args.content.now) (sym c.is_version_name.ensures ∙ c.if-is_version_name.true))
