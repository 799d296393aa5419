use Rattle.std.proofs.Common.{[], ap, ◌∙◌, ◌++◌, map, refl, string_bytes}
use Rattle.std.specs.List.{cons_option}
use Rattle.ocfl_tree.specs.Place.{Text}
use Rattle.ocfl_inventory.specs.{Notes.{fault_note}, Remark.{remark_view}}
use Rattle.ocfl_inventory.proofs.PathTexts.{faults_step, faults_end}
use Rattle.ocfl_inventory.proofs.notes.add_each_fault.Goals as goal

pub loop-text-init : goal.loop-text-init
loop-text-init c = refl

pub loop-text-preserved : goal.loop-text-preserved
loop-text-preserved c =
    let so_far = map remark_view c.loop-text.out.items in
    faults_step c.args.content.now c.args.texts.now c.loop-text.text-index c.text-item.result so_far _ (map remark_view c.add_fault.new.out.items) c.loop-text-test.true
    (c.in_ok-add_fault.ensures ∙ ap (λ (t : Text). so_far ++ cons_option (fault_note c.args.content.now t) []) (c.as_str.ensures.value ∙ ap string_bytes c.text-item.is)) c.loop-text.invariant

pub returns : goal.returns
returns c = faults_end c.args.content.now c.args.texts.now c.loop-text.text-index (map remark_view c.loop-text.out.items) _ c.loop-text-test.false c.loop-text.invariant
