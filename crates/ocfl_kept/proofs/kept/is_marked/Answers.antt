use Rattle.std.proofs.Common.{◌≡◌, ◌∙◌, ◌<◌, ◌^◌, [], arith, length, rules}
use Rattle.std.specs.Prelude.{IsTrue}
use Rattle.std.proofs.lemmas.Grind.{common_steps}
use Rattle.ocfl_kept.proofs.Marking.{begun, checked_on, checked_all, not_so_many, nothing_left}
use Rattle.ocfl_kept.proofs.kept.is_marked.Goals as goal

pub loop-start-init : goal.loop-start-init
loop-start-init g c = record {
  long = grind (arith, common_steps);
  checked = λ shown short. begun _ _ _ c.new-check.ensures;
}

pub loop-start-preserved : goal.loop-start-preserved
loop-start-preserved g c = record {
  long = c.read_report.auto.buffer ∙ c.loop-start.invariant.long;
  checked = λ shown short.
      checked_on _ _ c.in_ok-count.count _ c.push.new.self _ _ _ c.read_report.new.buffer (c.loop-start.invariant.checked shown short) short c.in_ok-count.ensures.bound.0 (c.in_ok-count.ensures.read shown) c.push.ensures;
}

pub returns-then-count-eq0 : goal.returns-then-count-eq0
returns-then-count-eq0 g c = λ shown short.
    let kept = c.read_report.auto.buffer in
    let long = c.loop-start.invariant.long in
    let left = nothing_left c.in_ok-count.count _ _ c.read_report.new.buffer (c.in_ok-count.ensures.read shown) c.if-count-eq0.true (c.in_ok-count.ensures.end shown c.if-count-eq0.true (omega (arith, kept, long))) in
    checked_all _ _ _ _ _ (IsTrue c.is_met.result) (c.loop-start.invariant.checked shown short) left c.is_met.ensures

pub returns : goal.returns
returns g c = λ shown short. absurd (not_so_many _ _ _ _ _ (c.loop-start.invariant.checked shown short) short c.loop-start-test.false)
