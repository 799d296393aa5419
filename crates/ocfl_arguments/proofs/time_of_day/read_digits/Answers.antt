use Rattle.std.proofs.Common.{◌/◌, ◌%◌, refl}
use Rattle.ocfl_arguments.proofs.Digits.{tens_of, ones_of}
use Rattle.ocfl_arguments.proofs.time_of_day.read_digits.Goals as goal

pub returns-in_err-tens-clause-missing : goal.returns-in_err-tens-clause-missing
returns-in_err-tens-clause-missing c none n l e =
    let tens = tens_of c.args.tens c.args.ones n l e in
    c.in_err-tens.ensures.missing refl (n / 10) tens.0 tens.1

pub returns-in_err-ones-clause-missing : goal.returns-in_err-ones-clause-missing
returns-in_err-ones-clause-missing c none n l e =
    let ones = ones_of c.args.tens c.args.ones n l e in
    c.in_err-ones.ensures.missing refl (n % 10) ones.0 ones.1
