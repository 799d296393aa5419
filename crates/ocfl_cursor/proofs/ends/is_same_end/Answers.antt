use Rattle.ocfl_cursor.proofs.PartTexts.{same_some}
use Rattle.ocfl_cursor.proofs.ends.is_same_end.Goals as goal

pub returns-in-Some-Some : goal.returns-in-Some-Some
returns-in-Some-Some c = same_some c.eq.result _ _ c.args.end.now c.args.other.now c.in-Some-Some.is-0 c.in-Some-Some.is-1 c.eq.ensures
