use Rattle.std.proofs.Common.{◌≡◌, ◌∙◌, ap, sym, subst, pos, ◌*ℤ◌, arith, w32, w64}
use Rattle.jiff.specs.Words.{offset_at, plain_zone}
use Rattle.jiff_core.specs.Timestamp.{IsOffsetSeconds}
use Rattle.jiff_core.proofs.SignedLemmas.{back_small}
use Rattle.ocfl_clock.specs.Clock.{clock_at, shifted}
use Rattle.ocfl_clock.proofs.Days.{small_offset}
use Rattle.ocfl_clock.proofs.next.clock_at.Goals as goal

pub returns-clause-value : goal.returns-clause-value
unfolding clock_at
returns-clause-value c =
    let zone = plain_zone c.args.zone.now in
    let in_range : IsOffsetSeconds c.seconds.result = subst IsOffsetSeconds (sym c.seconds.ensures) c.to_offset.result.in_range in
    let back = back_small w32 c.seconds.result (small_offset c.seconds.result in_range) in
    let second = back_small w64 (pos c.args.second) (omega arith) in
    let o : c.seconds.result ≡ offset_at zone (pos c.args.second *ℤ pos 1_000_000_000) =
    c.seconds.ensures ∙ c.to_offset.ensures ∙ ap (offset_at zone) (c.in-Ok.ensures.value ∙ ap (λ z. z *ℤ pos 1_000_000_000) second) in
    c.shift.ensures ∙ ap (λ z. shifted z c.args.second) (back ∙ o)
