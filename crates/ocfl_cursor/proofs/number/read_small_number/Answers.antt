use Rattle.std.proofs.Common.{sym, ◌∙◌, arith}
use Rattle.ocfl_cursor.proofs.Numbers.{number_line_determines}
use Rattle.ocfl_cursor.proofs.number.read_small_number.Goals as goal

pub returns-in-Err-clause-missing : goal.returns-in-Err-clause-missing
returns-in-Err-clause-missing c = λ e n rest l f.
    let same = (number_line_determines c.args.name.now c.in_ok-number.number n c.in_ok-number.rest.now rest c.in_ok-number.ensures.fits (omega arith) (sym c.in_ok-number.ensures.found ∙ f)).0 in
    c.in-Err.ensures (omega (arith, same))
