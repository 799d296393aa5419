use Rattle.std.proofs.Common.{refl, sym, ◌∙◌, arith}
use Rattle.ocfl_report.proofs.Numbers.{decimal_determines}
use Rattle.ocfl_state.proofs.CheckpointFields.{small_wide}
use Rattle.ocfl_state.proofs.checkpoint_fields.read_count.Goals as goal

pub returns-in_err-read_decimal-clause-missing : goal.returns-in_err-read_decimal-clause-missing
returns-in_err-read_decimal-clause-missing c = λ e n l f. c.in_err-read_decimal.ensures.missing refl n (small_wide n l) f

pub returns-in-Err-clause-missing : goal.returns-in-Err-clause-missing
returns-in-Err-clause-missing c = λ e n l f.
    let same = decimal_determines c.in_ok-read_decimal.field-0 n c.in_ok-read_decimal.ensures.fits (small_wide n l) (sym c.in_ok-read_decimal.ensures.found ∙ f) in
    c.in-Err.ensures (omega (arith, same, l))
