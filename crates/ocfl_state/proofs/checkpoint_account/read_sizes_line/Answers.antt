use Rattle.std.proofs.Common.{refl, sym, ap, codes, ◌∙◌}
use Rattle.ocfl_state.specs.CheckpointLines.{field_line, sizes_text}
use Rattle.ocfl_state.proofs.CheckpointFields.{field_determines, sizes_one_line}
use Rattle.ocfl_state.proofs.checkpoint_account.read_sizes_line.Goals as goal

pub returns-in_err-read_sizes-clause-missing : goal.returns-in_err-read_sizes-clause-missing
returns-in_err-read_sizes-clause-missing c = λ e m n rest h k f.
    c.in_err-read_sizes.ensures.missing refl m n h k
    (field_determines (codes "report ") c.in_ok-field.field.now (sizes_text m n) c.in_ok-field.rest.now rest c.in_ok-field.ensures.first (sizes_one_line m n h k) (sym c.in_ok-field.ensures.found ∙ f)).0

pub returns-in_err-field-clause-missing : goal.returns-in_err-field-clause-missing
returns-in_err-field-clause-missing c = λ e m n rest h k f. c.in_err-field.ensures.missing refl (sizes_text m n) rest f

pub returns-clause-found : goal.returns-clause-found
returns-clause-found c = c.in_ok-field.ensures.found ∙ ap (λ t. field_line (codes "report ") t c.in_ok-field.rest.now) c.in_ok-read_sizes.ensures.found
