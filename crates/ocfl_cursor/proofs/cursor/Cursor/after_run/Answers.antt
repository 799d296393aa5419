use Rattle.std.proofs.Common.{arith}
use Rattle.ocfl_cursor.proofs.Rules.{IsCursor-had}
use Rattle.ocfl_cursor.proofs.cursor.Cursor.after_run.Goals as goal

pub overflow_add-spent : goal.overflow_add-spent
overflow_add-spent c = let rule = IsCursor-had _ c.self.invariant in omega (arith, rule.spent, rule.runs)

pub overflow_add-files : goal.overflow_add-files
overflow_add-files c = let rule = IsCursor-had _ c.self.invariant in omega (arith, rule.files, rule.spent, rule.runs)
