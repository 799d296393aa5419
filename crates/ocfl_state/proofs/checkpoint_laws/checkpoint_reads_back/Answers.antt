use Rattle.std.proofs.{Common.{◌∙◌}, lemmas.Result.{IfOk-weaker, MatchResult-weaker}}
use Rattle.ocfl_state.specs.Checkpoint.{IsCheckpointText}
use Rattle.ocfl_state.proofs.{CheckpointTexts.{text_determines}, CheckpointRefusals.{refused_for_memory}}
use Rattle.ocfl_state.proofs.checkpoint_laws.checkpoint_reads_back.Goals as goal

pub returns-clause-same : goal.returns-clause-same
returns-clause-same c = λ said.
    let written : IsCheckpointText c.deref.result.now c.args.checkpoint.now =
    record { keeps = c.every_checkpoint_fits.ensures said; is = c.deref.ensures.value ∙ c.in_ok-text.ensures } in
    IfOk-weaker c.decode_checkpoint.result _ _ (λ read h. text_determines c.deref.result.now read c.args.checkpoint.now h written) c.decode_checkpoint.ensures.checkpoint

pub returns-clause-not_refused : goal.returns-clause-not_refused
returns-clause-not_refused c = λ said.
    let written : IsCheckpointText c.deref.result.now c.args.checkpoint.now =
    record { keeps = c.every_checkpoint_fits.ensures said; is = c.deref.ensures.value ∙ c.in_ok-text.ensures } in
    MatchResult-weaker c.decode_checkpoint.result c.decode_checkpoint.ensures.refused (λ _ h. h) (λ r h. refused_for_memory c.deref.result.now c.args.checkpoint.now written r h)
