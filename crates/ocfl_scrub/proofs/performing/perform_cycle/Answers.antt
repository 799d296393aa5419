use Rattle.std.proofs.Common.{◌≡◌, subst, inl, ◌∙◌, ap, map}
use Rattle.ocfl_rules.specs.Parts.{whole}
use Rattle.ocfl_scrub.specs.{Call.{call_of}, Chaining.{CycleOfRunsWithin}, Running.{limits_of}}
use Rattle.ocfl_scrub.specs.Performing.{equal_limits}
use Rattle.ocfl_scrub.proofs.ChainHeadline.{headline_of_whole}
use Rattle.ocfl_scrub.proofs.performing.perform_cycle.Goals as goal

pub returns-clause-told : goal.returns-clause-told
returns-clause-told g c told root over short =
    let e = c.cycle.ensures in
    let s = g.T.Tree.state c.args.store.now in
    let t = g.T.Tree.state c.cycle.new.store in
    let old = g.W.Write.contents c.args.out.now in
    let new = g.W.Write.contents c.cycle.new.out in
    let end = c.cycle.result in
    let same : map limits_of c.deref.result.now ≡ equal_limits c.args.limits c.args.count = ap (map limits_of) (c.deref.ensures.value ∙ c.in-Ok.ensures) in
    let cycles : CycleOfRunsWithin (call_of c.args.further root s t old new) whole (equal_limits c.args.limits c.args.count) end =
    subst (λ ls. CycleOfRunsWithin (call_of c.args.further root s t old new) whole ls end) same (e.told told root over short) in
    inl (record {
      ran = end;
      cycles = cycles;
      headline = headline_of_whole (call_of c.args.further root s t old new) (equal_limits c.args.limits c.args.count) end cycles;
      count_is = e.any_store.runs_are;
      spent_is = e.any_store.spent_is;
      says = c.describe_cycle.ensures.note;
    })
