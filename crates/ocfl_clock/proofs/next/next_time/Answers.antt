use Rattle.std.proofs.Common.{◌≡◌, ◌+◌, ◌*◌, subst, arith}
use Rattle.jiff.specs.Words.{plain_zone}
use Rattle.ocfl_clock.specs.Clock.{IsNextTime, second_of_day}
use Rattle.ocfl_clock.proofs.Days.{found_next, none_found, none_next}
use Rattle.ocfl_clock.proofs.next.next_time.Goals as goal

pub returns-then-comes-clause-next : goal.returns-then-comes-clause-next
returns-then-comes-clause-next c =
    let time : 3600 * c.from.result + 60 * c.from-2.result ≡ second_of_day c.args.hour c.args.minute = cc in
    subst (λ t. IsNextTime (plain_zone c.args.zone.now) t c.args.now (c.loop-second.second + 1)) time
    (found_next (plain_zone c.args.zone.now) _ c.args.now c.loop-second.second c.loop-second.before c.in_ok-after.after (omega arith) (omega arith)
    c.loop-second.invariant.shown c.in_ok-after.ensures.value (c.comes.ensures.0 c.if-comes.true) c.loop-second.invariant.first)

pub loop-second-preserved : goal.loop-second-preserved
loop-second-preserved c = record {
  shown = c.in_ok-after.ensures.value;
  first = none_next (plain_zone c.args.zone.now) _ c.args.now c.loop-second.second c.loop-second.before c.in_ok-after.after
      c.loop-second.invariant.shown c.in_ok-after.ensures.value (λ k. cc (c.comes.ensures.1 k, c.if-comes.false)) c.loop-second.invariant.first;
}

pub returns-clause-next : goal.returns-clause-next
returns-clause-next c =
    let time : 3600 * c.from.result + 60 * c.from-2.result ≡ second_of_day c.args.hour c.args.minute = cc in
    subst (λ t. IsNextTime (plain_zone c.args.zone.now) t c.args.now (c.args.now + 86400)) time
    (none_found (plain_zone c.args.zone.now) _ c.args.now c.loop-second.second (omega arith) c.loop-second.invariant.first)
