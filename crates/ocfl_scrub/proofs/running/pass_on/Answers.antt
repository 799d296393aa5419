use Rattle.std.proofs.Common.{◌≤◌, ◌∙◌, ◌^◌, ap, arith, length, refl, subst, sym}
use Rattle.ocfl_tree.specs.Place.{Place}
use Rattle.ocfl_scrub.specs.{Call.{call_of}, Passes.{IsPass, PassesOn}, Running.{limits_of}, Starting.{part_of}}
use Rattle.ocfl_scrub.specs.declared.running.RunStatus.TheVariants as status
use Rattle.ocfl_scrub.proofs.KeptRuns.{other_pass, spent_pass}
use Rattle.ocfl_scrub.proofs.KeptTurns.{on_way_first, pass_is, way_ended, way_lost, way_missed, way_next, way_spent}
use Rattle.ocfl_scrub.proofs.{LoopLaws.{next_short}, MeterLaws.{paid_start}}
use Rattle.ocfl_scrub.proofs.{PassLaws.{lines_then}, TakeLaws.{nothing_written}}
use Rattle.ocfl_scrub.proofs.RunTurns.{charged_item, not_within, within_both}
use Rattle.ocfl_scrub.proofs.running.pass_on.Goals.{then-not-paid, else-not-paid+in-Err, else-not-paid+in-Ok+in-Ok-next_within+in-None, else-not-paid+in-Ok+in-Err-next_within}
use Rattle.ocfl_scrub.proofs.running.pass_on.Goals as goal

pub loop-alloc-init : goal.loop-alloc-init
loop-alloc-init g c =
    let meter = c.new-meter.ensures in
    record {
      lines = nothing_written _;
      short = c.requires.short;
      near = c.args.met.short;
      limits = meter.limits;
      paid = paid_start _ _ _ meter.spent meter.files;
      told = λ further told root over short. on_way_first further root (part_of c.args.part.now) _ _ c.args.met c.args.from _ _ _ meter.spent meter.files over;
    }

pub invariant_of-end : goal.invariant_of-end
invariant_of-end g c = record { short = c.loop-alloc.invariant.near }

pub loop-alloc-preserved : goal.loop-alloc-preserved
loop-alloc-preserved g c =
    let i = c.loop-alloc.invariant in
    let given = c.in-Ok-next_within in
    let took = c.in-Ok.ensures in
    let may = c.pays-paid.ensures.paid c.if-not-paid.false in
    record {
      lines = lines_then _ _ _ _ _ _ i.lines took.lines c.either-found.ensures;
      short = subst (λ (p : Place). length p ≤ 255) (sym took.place) i.near;
      near = next_short _ _ c.in-Some.is given.ensures.goes_on c.in-Some.next.place refl;
      limits = c.charge.ensures.limits ∙ i.limits;
      paid = charged_item _ c.loop-alloc.meter _ _ _ _ i.limits i.paid took.cost may c.charge.ensures.spent c.charge.ensures.files;
      told = λ further told root over short.
          way_next (part_of c.args.part.now) over (i.told further told root over short) (λ h. within_both _ c.loop-alloc.meter i.limits (may h)) _ _ _ _ _ _ _ _ took.place c.charge.ensures.spent c.charge.ensures.files
          c.either-found.ensures (λ u q. took.told further told root u short q) _ _ _ (λ tree. given.ensures.told told root tree further) _ c.in-Some.is given.ensures.before;
    }

pub returns-clause-any_store : goal.returns-clause-any_store
returns-clause-any_store g c =
    let i = c.loop-alloc.invariant in
    let e = c.pass_end.ensures in
    let bound = e.bound.spent in
    let budget = e.bound.budget.1 in
    let fits : c.if-not-paid.meter.spent ≤ 2 ^ 63 = omega (arith, bound, budget) in
    subst (IsPass _ _ c.args.limits) (pass_is c.pass_end.result _ _ _ _ _ _ e.last e.spent e.files e.found e.end e.met)
    (elim c.if-not-paid.branch [
      | then-not-paid w ↦ let small = rw w.meter-is at fits in
          rw (w.out-is, w.last-is, w.meter-is, w.found-is, w.end-is)
          (spent_pass _ _ c.args.limits _ _ _ _ i.short i.paid small _ i.lines)
      | else-not-paid+in-Err w ↦ let small = rw w.meter-is at fits in
          rw (w.out-is, w.last-is, w.meter-is, w.found-is, w.end-is)
          (other_pass _ _ c.args.limits _ _ _ _ i.short i.paid small _ (λ e. cc) (λ e. cc) (λ n. rw (w.in-Err.ensures.unwritten (λ e. n (ap status.Stopped e))) i.lines))
      | else-not-paid+in-Ok+in-Ok-next_within+in-None w ↦ let small = rw w.meter-is at fits in
          let took = w.in-Ok.ensures in
          rw (w.out-is, w.last-is, w.meter-is, w.found-is, w.end-is)
          (other_pass _ _ c.args.limits _ _ _ _ (subst (λ (p : Place). length p ≤ 255) (sym took.place) i.near)
          (charged_item _ c.loop-alloc.meter _ _ _ _ i.limits i.paid took.cost (c.pays-paid.ensures.paid w.if-not-paid.false) w.charge.ensures.spent w.charge.ensures.files) small
          _ (λ e. cc) (λ e. cc) (λ n. lines_then _ _ _ _ _ _ i.lines took.lines w.either-found.ensures))
      | else-not-paid+in-Ok+in-Err-next_within w ↦ let small = rw w.meter-is at fits in
          let took = w.in-Ok.ensures in
          rw (w.out-is, w.last-is, w.meter-is, w.found-is, w.end-is)
          (other_pass _ _ c.args.limits _ _ _ _ (subst (λ (p : Place). length p ≤ 255) (sym took.place) i.near)
          (charged_item _ c.loop-alloc.meter _ _ _ _ i.limits i.paid took.cost (c.pays-paid.ensures.paid w.if-not-paid.false) w.charge.ensures.spent w.charge.ensures.files) small
          _ (λ e. cc) (λ e. cc) (λ n. lines_then _ _ _ _ _ _ i.lines took.lines w.either-found.ensures))
    ])

pub returns-clause-told : goal.returns-clause-told
returns-clause-told g c further told root over short =
    let i = c.loop-alloc.invariant in
    let e = c.pass_end.ensures in
    let part = part_of c.args.part.now in
    let way = i.told further told root over short in
    let call = call_of further root (g.T.Tree.state c.args.store.now) (g.T.Tree.state c.if-not-paid.store) (g.W.Write.contents c.args.out.now) (g.W.Write.contents c.if-not-paid.out) in
    subst (PassesOn call part c.args.met c.args.from (limits_of c.args.limits)) (pass_is c.pass_end.result _ _ _ _ _ _ e.last e.spent e.files e.found e.end e.met)
    (elim c.if-not-paid.branch [
      | then-not-paid w ↦ let unpaid = c.pays-paid.ensures.unpaid w.if-not-paid.true in
          rw (w.store-is, w.out-is, w.last-is, w.meter-is, w.found-is, w.end-is)
          (way_spent part over way _ refl refl unpaid.0 (not_within _ c.loop-alloc.meter i.limits unpaid.1))
      | else-not-paid+in-Err w ↦
          rw (w.store-is, w.out-is, w.last-is, w.meter-is, w.found-is, w.end-is)
          (way_missed part over way (λ h. within_both _ c.loop-alloc.meter i.limits (c.pays-paid.ensures.paid w.if-not-paid.false h)) _ _ w.in-Err.why (λ u q. w.in-Err.ensures.told further told root u short q))
      | else-not-paid+in-Ok+in-Ok-next_within+in-None w ↦
          rw (w.store-is, w.out-is, w.last-is, w.meter-is, w.found-is, w.end-is)
          (way_ended part over way (λ h. within_both _ c.loop-alloc.meter i.limits (c.pays-paid.ensures.paid w.if-not-paid.false h)) _ _ _ _ _ _ _ _ w.in-Ok.ensures.place w.charge.ensures.spent w.charge.ensures.files
          w.either-found.ensures (λ u q. w.in-Ok.ensures.told further told root u short q) _ w.in-Ok-next_within.step.0 _ (λ tree. w.in-Ok-next_within.ensures.told told root tree further) w.in-None.is)
      | else-not-paid+in-Ok+in-Err-next_within w ↦
          rw (w.store-is, w.out-is, w.last-is, w.meter-is, w.found-is, w.end-is)
          (way_lost part over way (λ h. within_both _ c.loop-alloc.meter i.limits (c.pays-paid.ensures.paid w.if-not-paid.false h)) _ _ _ _ _ _ _ _ w.in-Ok.ensures.place w.charge.ensures.spent w.charge.ensures.files
          w.either-found.ensures (λ u q. w.in-Ok.ensures.told further told root u short q) _ w.in-Err-next_within.why (λ tree. w.in-Err-next_within.ensures.told told root tree further))
    ])
