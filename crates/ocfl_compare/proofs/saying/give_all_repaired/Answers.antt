use Rattle.std.proofs.Common.{◌≡◌, [], map, sym, subst, ap, ◌∙◌}
use Rattle.std.specs.Prelude.{cond, ◌||◌, flat_map}
use Rattle.std.proofs.lemmas.Result.{on_ok_weaker}
use Rattle.ocfl_compare.specs.Changes.{new_codes}
use Rattle.ocfl_compare.specs.Seen.{shown}
use Rattle.ocfl_compare.specs.declared.change.Change.TheVariants.{Repaired}
use Rattle.ocfl_compare.specs.Internal.Summing.{repaired_at, summary_repaired}
use Rattle.ocfl_compare.proofs.Summaries.{code_changes}
use Rattle.ocfl_compare.proofs.saying.give_all_repaired.Goals as goal

pub returns : goal.returns
returns g c =
    let p = c.args.sides.place.now in
    let now = c.args.sides.now.now in
    let before = c.args.sides.before.now in
    let codes = new_codes now.findings.items before.findings.items in
    let seen : summary_repaired before now ≡ codes = λ i. cond (c.if-now.false i || c.if-now-2.false i) [] codes in
    on_ok_weaker c.give_repaired.result (λ h.
    subst (λ cs. g.T.TakeChange.takes c.args.taker.now cs c.give_repaired.new.taker)
    ((λ i. flat_map (repaired_at p (c.as_slice.ensures.value i)) (c.as_slice-2.ensures.value i)) ∙ sym (code_changes Repaired p now.findings.items before.findings.items)
    ∙ ap (λ cs. shown p (map Repaired cs)) (sym seen)) h)
    c.give_repaired.ensures
