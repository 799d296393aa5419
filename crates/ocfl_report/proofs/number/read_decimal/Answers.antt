use Rattle.std.proofs.Common.{◌≡◌, decimal, Ok, sym, subst, ap, ◌∙◌}
use Rattle.std.proofs.lemmas.Fmt.{parse-decimal_wide}
use Rattle.std.specs.{Result.{result_ok}, Str.{IsUtf8}}
use Rattle.ocfl_report.specs.Internal.Number.{IsPlain}
use Rattle.ocfl_report.proofs.Numbers.{wide, read_is_decimal, decimal_plain, decimal_utf8, IfSome-result_ok, IsNone-not_some}
use Rattle.ocfl_report.proofs.number.read_decimal.Goals as goal

pub returns-then-not-is_plain-clause-missing : goal.returns-then-not-is_plain-clause-missing
returns-then-not-is_plain-clause-missing c = λ e n l f. let plain = c.is_plain.ensures.1 (subst IsPlain (sym f) (decimal_plain n l)) in cc

pub returns-in-Err-clause-missing : goal.returns-in-Err-clause-missing
returns-in-Err-clause-missing c = λ e n l f. c.in-Err.ensures.cases.0 (subst IsUtf8 (sym f) (decimal_utf8 n l))

pub returns-in-Ok-clause-found : goal.returns-in-Ok-clause-found
returns-in-Ok-clause-found c =
    let digits = c.args.digits.now in
    let plain : IsPlain digits = c.is_plain.ensures.0 cc in
    let same : c.in-Ok.text.now ≡ digits = c.in-Ok.ensures.cases.0 in
    let read = rw same at c.parse.ensures.value.0 in
    IfSome-result_ok _ _ (λ n. digits ≡ decimal n) c.ok.ensures.value (read_is_decimal digits c.parse.result plain read)

pub returns-in-Ok-clause-missing : goal.returns-in-Ok-clause-missing
returns-in-Ok-clause-missing c = λ e n l f.
    let found : c.parse.result ≡ Ok n = parse-decimal_wide 128 n c.in-Ok.text.now c.parse.result l (wide n l) (c.in-Ok.ensures.cases.0 ∙ f) c.parse.ensures.value.0 in
    IsNone-not_some c.ok.result n (c.ok.ensures.value ∙ ap result_ok found) e
