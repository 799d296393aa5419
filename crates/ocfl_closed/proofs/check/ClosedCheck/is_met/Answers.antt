use Rattle.ocfl_closed.proofs.Marks.{met_by_mark}
use Rattle.ocfl_closed.proofs.check.ClosedCheck.is_met.Goals as goal

pub returns-in-Kept : goal.returns-in-Kept
returns-in-Kept c = λ report taken. met_by_mark c.args.self.now _ _ report _ c.in-Kept.is c.is_met.ensures taken
