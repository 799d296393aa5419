use Rattle.std.proofs.Common.{◌≢◌, refl, ap, ◌+◌, arith, rules}
use Rattle.ocfl_scrub.specs.declared.stop.ReportStop.TheVariants.{Output}
use Rattle.ocfl_scrub.specs.Starting.{part_of}
use Rattle.ocfl_scrub.specs.declared.cycling.CycleStatus.TheVariants as cycle
use Rattle.ocfl_scrub.proofs.{TakeLaws.{nothing_written}, PassLaws.{lines_then}}
use Rattle.ocfl_scrub.proofs.ChainRuns.{begun_option, chain_begins, chain_goes_on, cycle_out, cycle_unbegun, cycle_ended, cycle_stopped, run_there}
use Rattle.ocfl_scrub.proofs.CycleLoop.{limits_next, limits_out, limits_some, ended_not_worn, spent_not_worn, stopped_not_worn, ended_wrote, spent_wrote, stopped_wrote, new_unended, one_run_more, same_cycle, same_option, spent_unended, lines_said}
use Rattle.ocfl_scrub.proofs.cycling.cycle_part.Goals as goal

pub loop-one-init : goal.loop-one-init
loop-one-init g c = record {
  counted = refl;
  counts = ap (λ x. x.runs) c.new-cursor.ensures;
  cycle = ap (λ x. x.cycle) c.new-cursor.ensures;
  option = ap (λ x. x.further) c.new-cursor.ensures;
  unended = new_unended c.args.further _ c.new-cursor.ensures;
  begins = λ e. c.new-cursor.ensures;
  none_found = λ e. refl;
  silent = λ e. refl;
  untouched = λ e. refl;
  lines = nothing_written _;
  told = λ told root over short. chain_begins c.args.further root (part_of c.args.part.now) _ _ _ _ _ c.new-cursor.ensures refl over;
}

pub returns-in_default : goal.returns-in_default
returns-in_default g c = record {
  any_store = search rules;
  told = λ told root over short.
      let e = c.cycle_end.ensures in
      cycle_unbegun c.args.further root (part_of c.args.part.now) _ _ _ _ _ _ _ _ _ (c.loop-one.invariant.told told root over short) _ e.runs e.cursor e.found e.end c.in_default.ensures.made
      (limits_some c.args.limits.now c.loop-one.one-index c.loop-one-test.true);
}

pub returns-in-Ended : goal.returns-in-Ended
returns-in-Ended g c =
    let e = c.cycle_end-in-Ended.ensures in
    let lines = lines_said _ _ _ _ e.found
    (lines_then _ _ _ _ _ _ c.loop-one.invariant.lines (c.run_part-reached.ensures.any_store.lines (ended_wrote _ c.in-Ended.is)) c.either-found.ensures) in
    record {
      any_store = search (rules, lines);
      told = λ told root over short.
          cycle_ended c.args.further root (part_of c.args.part.now) _ _ _ _ _ _ _ _ _ (c.loop-one.invariant.told told root over short) _ _ _ _ _ _ _ (limits_next _ _ _ c.loop-one-test.true c.one-item.is) c.in-Ok.ensures.same
          (λ reached. run_there c.args.further root _ _ _ _ _ _ _ _ _ (begun_option _ _ _ c.in-Ok.ensures.same c.loop-one.invariant.option) (c.run_part-reached.ensures.told told root reached short (ended_not_worn _ c.in-Ended.is))) c.either-found.ensures _ e.runs e.cursor e.found e.end c.in-Ended.is;
    }

pub returns-in-Stopped : goal.returns-in-Stopped
returns-in-Stopped g c =
    let e = c.cycle_end-in-Stopped.ensures in
    let lines = λ (wrote : c.cycle_end-in-Stopped.result.end ≢ cycle.Stopped Output). lines_said _ _ _ _ e.found
    (lines_then _ _ _ _ _ _ c.loop-one.invariant.lines (c.run_part-reached.ensures.any_store.lines (stopped_wrote _ _ _ c.in-Stopped.is e.end wrote)) c.either-found.ensures) in
    record {
      any_store = search (rules, lines);
      told = λ told root over short.
          cycle_stopped c.args.further root (part_of c.args.part.now) _ _ _ _ _ _ _ _ _ (c.loop-one.invariant.told told root over short) _ _ _ _ _ _ _ (limits_next _ _ _ c.loop-one-test.true c.one-item.is) c.in-Ok.ensures.same
          (λ reached. run_there c.args.further root _ _ _ _ _ _ _ _ _ (begun_option _ _ _ c.in-Ok.ensures.same c.loop-one.invariant.option) (c.run_part-reached.ensures.told told root reached short (stopped_not_worn _ _ c.in-Stopped.is))) c.either-found.ensures _ _ e.runs e.cursor e.found e.end c.in-Stopped.is;
    }

pub loop-one-preserved : goal.loop-one-preserved
loop-one-preserved g c =
    let i = c.loop-one.invariant in
    let ran = c.run_part-reached.result in
    let going = c.in-Spent.is in
    let moved = c.run_part-reached.ensures.any_store.cursor (spent_not_worn _ going) in
    record {
      counted = ap (λ n. n + 1) i.counted;
      counts = one_run_more c.loop-one.cursor c.in-Ok.begun ran.cursor ran.spent ran.files ran.end moved.0 c.in-Ok.ensures.same i.unended moved.1 _ i.counts;
      cycle = same_cycle c.loop-one.cursor c.in-Ok.begun ran.cursor ran.spent ran.files ran.end moved.0 c.in-Ok.ensures.same i.unended moved.1 i.cycle;
      option = same_option c.loop-one.cursor c.in-Ok.begun ran.cursor ran.spent ran.files ran.end moved.0 c.in-Ok.ensures.same i.unended moved.1 c.args.further i.option;
      unended = spent_unended c.loop-one.cursor c.in-Ok.begun ran.cursor ran.spent ran.files ran.end moved.0 c.in-Ok.ensures.same i.unended moved.1 going;
      begins = λ e. absurd (omega (arith, e));
      none_found = λ e. absurd (omega (arith, e));
      silent = λ e. absurd (omega (arith, e));
      untouched = λ e. absurd (omega (arith, e));
      lines = lines_then _ _ _ _ _ _ i.lines (c.run_part-reached.ensures.any_store.lines (spent_wrote _ going)) c.either-found.ensures;
      told = λ told root over short.
          chain_goes_on c.args.further root (part_of c.args.part.now) _ _ _ _ _ _ _ _ _ (i.told told root over short) _ _ _ _ _ _ _ (limits_next _ _ _ c.loop-one-test.true c.one-item.is) c.in-Ok.ensures.same
          (λ reached. run_there c.args.further root _ _ _ _ _ _ _ _ _ (begun_option _ _ _ c.in-Ok.ensures.same i.option) (c.run_part-reached.ensures.told told root reached short (spent_not_worn _ going))) c.either-found.ensures going;
    }

pub returns : goal.returns
returns g c = record {
  any_store = search rules;
  told = λ told root over short.
      let e = c.cycle_end-2.ensures in
      cycle_out c.args.further root (part_of c.args.part.now) _ _ _ _ _ _ _ _ _ (c.loop-one.invariant.told told root over short) _ e.runs e.cursor e.found e.end
      (limits_out c.args.limits.now c.loop-one.one-index c.loop-one-test.false);
}
