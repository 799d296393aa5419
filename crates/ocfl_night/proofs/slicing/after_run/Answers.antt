use Rattle.std.proofs.Common.{ap, refl}
use Rattle.ocfl_state.specs.Checkpoint.{Checkpoint}
use Rattle.ocfl_night.proofs.slicing.after_run.Goals as goal

pub returns-clause-next : goal.returns-clause-next
returns-clause-next c =
    record {
      ended = c.phase_after-checkpoint-inside.ensures.ended;
      goes_on = c.phase_after-checkpoint-inside.ensures.goes_on;
      report_is = refl;
      cursor_is = refl;
      rest_is = ap (λ (w : Checkpoint). record w { phase = c.phase_after-checkpoint-inside.result; report = c.args.report; cursor = c.args.ran.cursor }) c.checkpoint.view_is;
    }
