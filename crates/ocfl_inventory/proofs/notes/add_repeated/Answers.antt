use Rattle.std.proofs.Common.{List, ap, ◌∙◌, ◌++◌, map}
use Rattle.ocfl_tree.specs.Place.{Text}
use Rattle.ocfl_inventory.specs.{Internal.ListsOf.{repeated_note}, Remark.{remark_view}}
use Rattle.ocfl_inventory.proofs.Loops.{appended, appended_all, mapped_more}
use Rattle.ocfl_inventory.proofs.notes.add_repeated.Goals as goal

pub loop-key-preserved : goal.loop-key-preserved
loop-key-preserved c =
    let keys = c.deref-key-items.result.now in
    let line = repeated_note c.args.algorithm in
    appended (map line) keys c.loop-key.key-index (map remark_view c.args.out.now.items) (map remark_view c.loop-key.out.items) _ _
    (mapped_more line keys c.loop-key.key-index c.key-item.result (line c.key-item.result) c.loop-key-test.true (ap line c.key-item.is))
    c.loop-key.invariant c.in_ok-add_key.ensures

pub returns : goal.returns
returns c =
    let line = repeated_note c.args.algorithm in
    appended_all (map line) c.deref-key-items.result.now c.loop-key.key-index _ _ c.loop-key-test.false c.loop-key.invariant
    ∙ ap (λ (ks : List Text). map remark_view c.args.out.now.items ++ map line ks) (c.deref-key-items.ensures.value ∙ c.in_ok-repeated_keys.ensures)
