use Rattle.ocfl_cursor.proofs.CursorTexts.{text_determines}
use Rattle.ocfl_cursor.proofs.laws.text_determines_the_cursor.Goals as goal

pub returns : goal.returns
returns c = text_determines
