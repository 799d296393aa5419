use Rattle.std.proofs.Common.{codes}
use Rattle.ocfl_cursor.proofs.PartTexts.{same_after}
use Rattle.ocfl_cursor.proofs.part_decoding.is_place_of_word.Goals as goal

pub returns-in-Some : goal.returns-in-Some
returns-in-Some c = same_after c.is_bytes.result (codes "./") c.args.text.now c.in-Some.path.now c.args.word.now c.in-Some.ensures.found c.is_bytes.ensures
