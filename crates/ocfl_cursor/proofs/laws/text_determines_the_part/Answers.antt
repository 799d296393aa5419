use Rattle.ocfl_cursor.proofs.PartTexts.{part_text_determines}
use Rattle.ocfl_cursor.proofs.laws.text_determines_the_part.Goals as goal

pub returns : goal.returns
returns c = part_text_determines
