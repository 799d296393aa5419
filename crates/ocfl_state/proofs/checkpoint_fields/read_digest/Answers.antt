use Rattle.std.proofs.Common.{sym, ◌∙◌}
use Rattle.ocfl_cursor.proofs.Texts.{text_eq-same}
use Rattle.ocfl_state.proofs.CheckpointFields.{no_digest, other_digits}
use Rattle.ocfl_state.proofs.checkpoint_fields.read_digest.Goals as goal

pub returns-in-Err-clause-missing : goal.returns-in-Err-clause-missing
returns-in-Err-clause-missing c = λ _ d h f. no_digest c.args.digits.now d _ c.in-Err.ensures h f

pub returns-then-not-is_bytes-clause-missing : goal.returns-then-not-is_bytes-clause-missing
returns-then-not-is_bytes-clause-missing c = λ _ d h f.
    other_digits c.args.digits.now c.in-Ok.digest c.hex_digits.result d c.is_bytes.result c.in-Ok.ensures c.hex_digits.ensures c.is_bytes.ensures c.if-not-is_bytes.true h f

pub returns-clause-found : goal.returns-clause-found
returns-clause-found c = text_eq-same _ _ (sym c.is_bytes.ensures ∙ c.if-not-is_bytes.false) ∙ c.hex_digits.ensures
