use Rattle.std.proofs.Common.{List, ℕ, ap, subst, ◌∙◌}
use Rattle.std.specs.Fmt.{HasWritten, styled_decimal}
use Rattle.ocfl_kept.proofs.Zeros.{six_digits_are}
use Rattle.ocfl_kept.proofs.digits.SixDigitsDisplay.fmt.Goals as goal

pub returns-clause-writes : goal.returns-clause-writes
returns-clause-writes g c = λ plain ok.
    let n = c.args.self.now.0 in
    subst (λ (t : List ℕ). HasWritten g.W.Write.write_str_gives c.args.f.now t c.write.new.self) (ap (λ s. styled_decimal s n) c.laid_out.ensures ∙ six_digits_are n) (c.write.ensures.writes plain ok)
