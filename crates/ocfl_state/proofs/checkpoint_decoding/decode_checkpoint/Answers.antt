use Rattle.std.proofs.Common.{refl}
use Rattle.ocfl_cursor.specs.Refused.{refusal_of}
use Rattle.ocfl_cursor.proofs.Options.{IfErr-passed}
use Rattle.ocfl_state.specs.CheckpointRefusal.{RefusedRightly}
use Rattle.ocfl_state.proofs.CheckpointRefusals.{refused_checkpoint, unread_checkpoint}
use Rattle.ocfl_state.proofs.CheckpointTexts.{IsCheckpointText-sealed}
use Rattle.ocfl_state.proofs.checkpoint_decoding.decode_checkpoint.Goals as goal

pub returns-in_err-body-clause-refused : goal.returns-in_err-body-clause-refused
returns-in_err-body-clause-refused c =
    IfErr-passed (RefusedRightly c.args.text.now) c.from_residual.result c.in_err-body.field-0.0 c.from_residual.ensures.1
    (refused_checkpoint c.args.text.now c.in_err-body.field-0.0 c.in_err-body.ensures.refused)

pub returns-in_err-read_body-clause-refused : goal.returns-in_err-read_body-clause-refused
returns-in_err-read_body-clause-refused c =
    let result = c.from_residual-in_err-read_body in
    let why = c.in_err-read_body.field-0.0 in
    IfErr-passed (RefusedRightly c.args.text.now) result.result (refusal_of why) result.ensures.1
    (unread_checkpoint c.args.text.now c.in_ok-body.body.now why (c.in_ok-body.ensures.passed refl) c.in_ok-body.ensures.body (λ e. c.in_err-read_body.ensures.bad (cc e)))

pub returns-clause-checkpoint : goal.returns-clause-checkpoint
returns-clause-checkpoint c =
    IsCheckpointText-sealed c.args.text.now c.in_ok-body.body.now c.in_ok-read_body.field-0 c.in_ok-body.ensures.body c.in_ok-read_body.ensures.checkpoint
