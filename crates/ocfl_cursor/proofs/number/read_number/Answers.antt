use Rattle.std.proofs.Common.{◌≢◌, decimal, refl, subst, All}
use Rattle.ocfl_report.proofs.Separators.{separator_is_there}
use Rattle.ocfl_cursor.proofs.Numbers.{after_name_is, after_space_is, digits_are_decimal}
use Rattle.ocfl_cursor.proofs.number.read_number.Goals as goal

pub returns-in_err-after_prefix-clause-missing : goal.returns-in_err-after_prefix-clause-missing
returns-in_err-after_prefix-clause-missing c = λ e n rest l f.
    let begins = rw c.as_bytes.ensures.value at c.in_ok-after_name.ensures.found in
    c.in_err-after_prefix.ensures.missing refl _ (after_name_is c.args.name.now c.args.text.now c.in_ok-after_name.after_name.now n rest begins f)

pub returns-in_err-digits-clause-missing : goal.returns-in_err-digits-clause-missing
returns-in_err-digits-clause-missing c = λ e n rest l f.
    let begins = rw c.as_bytes.ensures.value at c.in_ok-after_name.ensures.found in
    let after_space = after_space_is c.args.name.now c.args.text.now c.in_ok-after_name.after_name.now c.in_ok-after_prefix.field-0.now n rest begins c.in_ok-after_prefix.ensures.found f in
    separator_is_there 10 (decimal n) rest (subst (All (λ b. b ≢ 10)) after_space (c.in_err-digits.ensures.missing refl))

pub returns-in_err-read_decimal-clause-missing : goal.returns-in_err-read_decimal-clause-missing
returns-in_err-read_decimal-clause-missing c = λ e n rest l f.
    let begins = rw c.as_bytes.ensures.value at c.in_ok-after_name.ensures.found in
    let after_space = after_space_is c.args.name.now c.args.text.now c.in_ok-after_name.after_name.now c.in_ok-after_prefix.field-0.now n rest begins c.in_ok-after_prefix.ensures.found f in
    c.in_err-read_decimal.ensures.missing refl n l
    (digits_are_decimal _ c.in_ok-digits.digits.now c.in_ok-digits.rest.now n rest l c.in_ok-digits.ensures.first c.in_ok-digits.ensures.found after_space)
