use Rattle.std.proofs.Common.{[], ◌∷◌, ◌∙◌}
use Rattle.ocfl_inventory.specs.Note.{plain}
use Rattle.ocfl_item.proofs.LinesLaws.{has_more}
use Rattle.ocfl_item.proofs.lines.PlaceLines.plain.Goals as goal

pub returns : goal.returns
returns c = record {
  place = c.in_ok-add_plain.ensures.0 ∙ c.new-lines.ensures.place;
  lines = has_more c.new-lines.result c.add_plain.new.self [] (plain c.args.code ∷ []) c.new-lines.ensures.lines c.in_ok-add_plain.ensures;
}
