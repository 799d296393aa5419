use Rattle.std.proofs.Common.{◌∙◌, ap, sym, subst, take, drop, arith}
use Rattle.ocfl_state.specs.{Content.{Content}, Pieces.{PushesPart}}
use Rattle.ocfl_state.proofs.Readings.{passes_then, pushing_goes_on, pushing_stops_at}
use Rattle.ocfl_state.proofs.comparing.push_report.Goals as goal

pub returns-then-count-eq0-clause-pushed : goal.returns-then-count-eq0-clause-pushed
returns-then-count-eq0-clause-pushed g c = λ told.
    let S = g.S.StateFolder in
    let same = c.loop-reached.invariant.2 told in
    let n = c.in_ok-count.count in
    let at = c.loop-reached.reached in
    pushing_stops_at _ c.args.start c.args.end at n c.args.digests.now c.loop-reached.digests c.push_part.new.digests
    c.loop-reached-test.true c.if-count-eq0.true
    (ap (λ (s : Content). drop at s.report) (sym same) ∙ c.in_ok-count.ensures.end told c.if-count-eq0.true)
    (c.loop-reached.invariant.1 told)
    (subst (λ (s : Content). PushesPart (take n (drop at s.report)) n c.loop-reached.digests c.push_part.new.digests) same (c.in_ok-count.ensures.pushed told))

pub loop-reached-preserved : goal.loop-reached-preserved
loop-reached-preserved g c =
    let S = g.S.StateFolder in
    let n = c.in_ok-count.count in
    let at = c.loop-reached.reached in (
      omega (arith, c.loop-reached.invariant.0),
      λ told.
          pushing_goes_on _ c.args.start c.args.end at n c.args.digests.now c.loop-reached.digests c.push_part.new.digests
          c.loop-reached-test.true c.in_ok-count.ensures.bound
          (c.loop-reached.invariant.1 told)
          (subst (λ (s : Content). PushesPart (take n (drop at s.report)) n c.loop-reached.digests c.push_part.new.digests) (c.loop-reached.invariant.2 told) (c.in_ok-count.ensures.pushed told)),
      λ told. c.in_ok-count.ensures.seen told ∙ c.loop-reached.invariant.2 told,
      λ told. passes_then S.may_leave S.moment S.left_since _ _ _ (c.loop-reached.invariant.3 told) (c.in_ok-count.ensures.crash told),
      λ told.
          let before = c.loop-reached.invariant.4 told in
          let after = (c.in_ok-count.ensures.cause told).later in
          omega (arith, before, after),
    )
