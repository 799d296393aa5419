use Rattle.std.proofs.Common.{refl, sym, ap, decimal, ◌∙◌}
use Rattle.ocfl_state.specs.CheckpointLines.{field_line}
use Rattle.ocfl_state.proofs.CheckpointFields.{field_determines, count_one_line}
use Rattle.ocfl_state.proofs.checkpoint_account.read_count_line.Goals as goal

pub returns-in_err-read_count-clause-missing : goal.returns-in_err-read_count-clause-missing
returns-in_err-read_count-clause-missing c = λ e n rest h f.
    c.in_err-read_count.ensures.missing refl n h
    (field_determines c.args.front.now c.in_ok-field.field.now (decimal n) c.in_ok-field.rest.now rest c.in_ok-field.ensures.first (count_one_line n h) (sym c.in_ok-field.ensures.found ∙ f)).0

pub returns-in_err-field-clause-missing : goal.returns-in_err-field-clause-missing
returns-in_err-field-clause-missing c = λ e n rest h f. c.in_err-field.ensures.missing refl (decimal n) rest f

pub returns-clause-found : goal.returns-clause-found
returns-clause-found c = c.in_ok-field.ensures.found ∙ ap (λ t. field_line c.args.front.now t c.in_ok-field.rest.now) c.in_ok-read_count.ensures.found
