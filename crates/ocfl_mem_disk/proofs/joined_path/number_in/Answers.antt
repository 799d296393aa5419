use Rattle.std.proofs.Common.{◌≡◌, ℕ, arith}
use Rattle.ocfl_report.proofs.Numbers.{IfSome-result_ok}
use Rattle.ocfl_kept.specs.FilePaths.{six_digits}
use Rattle.ocfl_mem_disk.proofs.Named.{number_read}
use Rattle.ocfl_mem_disk.proofs.joined_path.number_in.Goals as goal

pub returns-in-Ok : goal.returns-in-Ok
returns-in-Ok c =
    let digits = c.args.digits.now in
    let same : c.in-Ok.text.now ≡ digits = c.in-Ok.ensures.cases.0 in
    IfSome-result_ok _ _ (λ n. (number : ℕ) → digits ≡ six_digits number → n ≡ number) c.ok.ensures.value (number_read digits c.parse.result (omega (arith, c.if-digits-gt-MOST_DIGITS.false)) (rw same at c.parse.ensures.value.0))
