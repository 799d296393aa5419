use Rattle.std.proofs.Common.{◌≡◌, ◌∙◌, ap, ℤ, pos, ◌+ℤ◌, ◌*ℤ◌, ◌*◌, arith, w64, add-zero}
use Rattle.jiff.specs.Words.{offset_at, civil_nanos}
use Rattle.jiff_core.proofs.SignedLemmas.{back_small}
use Rattle.ocfl_given.proofs.waiting.calendar_time.Goals as goal

pub returns-in-Ok-clause-some : goal.returns-in-Ok-clause-some
unfolding offset_at
returns-in-Ok-clause-some c =
    let second = back_small w64 (pos c.args.seconds) (omega arith) in
    let at : c.in-Ok.time.nanosecond ≡ pos c.args.seconds *ℤ pos 1_000_000_000 =
    c.in-Ok.ensures.value ∙ ap (λ z. z *ℤ pos 1_000_000_000) second in
    let shown : civil_nanos c.to_datetime.result ≡ (pos c.args.seconds *ℤ pos 1_000_000_000) +ℤ pos 0 =
    c.to_datetime.ensures ∙ ap (λ (n : ℤ). n +ℤ pos 0) at in
    shown ∙ ap pos (add-zero (c.args.seconds * 1_000_000_000))
