use Rattle.std.proofs.Common.{refl, sym, ap, ◌∙◌}
use Rattle.hex.specs.Hex.{encode_lower}
use Rattle.ocfl_state.specs.CheckpointLines.{field_line}
use Rattle.ocfl_state.proofs.CheckpointFields.{field_determines, digest_one_line}
use Rattle.ocfl_state.proofs.checkpoint_account.read_digest_line.Goals as goal

pub returns-in_err-read_digest-clause-missing : goal.returns-in_err-read_digest-clause-missing
returns-in_err-read_digest-clause-missing c = λ e d rest h f.
    c.in_err-read_digest.ensures.missing refl d h
    (field_determines c.args.front.now c.in_ok-field.field.now (encode_lower d) c.in_ok-field.rest.now rest c.in_ok-field.ensures.first (digest_one_line d h) (sym c.in_ok-field.ensures.found ∙ f)).0

pub returns-in_err-field-clause-missing : goal.returns-in_err-field-clause-missing
returns-in_err-field-clause-missing c = λ e d rest h f. c.in_err-field.ensures.missing refl (encode_lower d) rest f

pub returns-clause-found : goal.returns-clause-found
returns-clause-found c = c.in_ok-field.ensures.found ∙ ap (λ t. field_line c.args.front.now t c.in_ok-field.rest.now) c.in_ok-read_digest.ensures.found
