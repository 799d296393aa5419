use Rattle.std.proofs.Common.{List, String, Global, ap, ◌∙◌, map, string_bytes}
use Rattle.ocfl_inventory.specs.{Note.{note}, Remark.{remark_view}}
use Rattle.ocfl_report.specs.declared.code.Code.TheVariants.{S07}
use Rattle.ocfl_inventory.proofs.Loops.{appended, appended_all, seen_more}
use Rattle.ocfl_inventory.proofs.notes.add_unsupported.Goals as goal

pub loop-key-preserved : goal.loop-key-preserved
loop-key-preserved c =
    appended (λ (ks : List (String Global)). map (note S07) (map string_bytes ks)) c.args.keys.now c.loop-key.key-index (map remark_view c.args.out.now.items)
    (map remark_view c.loop-key.out.items) _ _
    (seen_more (note S07) string_bytes c.args.keys.now c.loop-key.key-index c.key-item.result (note S07 c.as_str.result.now) c.loop-key-test.true
    (ap (note S07) (c.as_str.ensures.value ∙ ap string_bytes c.key-item.is)))
    c.loop-key.invariant c.in_ok-add.ensures

pub returns : goal.returns
returns c = appended_all (λ (ks : List (String Global)). map (note S07) (map string_bytes ks)) c.args.keys.now c.loop-key.key-index _ _ c.loop-key-test.false c.loop-key.invariant
