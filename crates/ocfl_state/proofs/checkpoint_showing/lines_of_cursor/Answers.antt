use Rattle.std.proofs.lemmas.Result.{IfOk-weaker}
use Rattle.ocfl_state.proofs.CheckpointShowing.{shown_of}
use Rattle.ocfl_state.proofs.checkpoint_showing.lines_of_cursor.Goals as goal

pub returns-clause-lines : goal.returns-clause-lines
returns-clause-lines c = IfOk-weaker c.read_shown.result _ _ (λ lines h. shown_of c.args.text.now lines.items h) c.read_shown.ensures.lines
