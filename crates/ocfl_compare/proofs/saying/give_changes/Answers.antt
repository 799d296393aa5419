use Rattle.std.proofs.Common.{sym, subst, map, ◌∙◌}
use Rattle.std.specs.Prelude.{◌&&◌, not, flat_map}
use Rattle.std.proofs.lemmas.Result.{on_ok_weaker}
use Rattle.ocfl_compare.specs.Changes.{when, gone_object, gone_file, new_codes}
use Rattle.ocfl_compare.specs.{Versions.{inventory_changes}, Seen.{shown}}
use Rattle.ocfl_compare.specs.declared.change.Change.TheVariants.{Found, Repaired}
use Rattle.ocfl_compare.specs.Internal.Summing.{new_at, summary_note, summary_repaired}
use Rattle.ocfl_compare.proofs.Summaries.{code_changes, all_taken}
use Rattle.ocfl_compare.proofs.saying.give_changes.Goals as goal

pub returns : goal.returns
returns g c =
    let p = c.args.sides.place.now in
    let before = c.args.sides.before.now in
    let now = c.args.sides.now.now in
    let takes = g.T.TakeChange.takes in
    let one = subst (λ cs. takes c.args.taker.now cs c.give_if.new.taker) (λ i. shown p (when (c.is_object_gone.ensures i) (c.object_change.ensures i))) c.in_ok-give_if.ensures in
    let two = subst (λ cs. takes c.give_if.new.taker cs c.give_if-2.new.taker) (λ i. shown p (when (c.is_file_gone.ensures i) (c.file_change.ensures i))) c.in_ok-give_if-2.ensures in
    let three = subst (λ cs. takes c.give_if-2.new.taker cs c.give_new.new.taker)
    ((λ i. flat_map (new_at p (c.as_slice.ensures.value i)) (c.as_slice-2.ensures.value i)) ∙ sym (code_changes Found p before.findings.items now.findings.items)) c.in_ok-give_new.ensures in
    on_ok_weaker c.give_inventory_change.result (λ five.
    all_taken takes g.met.T.TakeChange.joined p (when (not now.object && before.object) (gone_object c.args.sides.has_lines)) (when (now.absent && before.file) (gone_file c.args.sides.in_shut))
    (map Found (new_codes before.findings.items now.findings.items)) (map Repaired (summary_repaired before now)) (inventory_changes (summary_note before) (summary_note now)) c.args.taker.now c.give_if.new.taker
    c.give_if-2.new.taker c.give_new.new.taker c.give_all_repaired.new.taker c.give_inventory_change.new.taker one two three c.in_ok-give_all_repaired.ensures five) c.give_inventory_change.ensures
