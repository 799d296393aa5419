use Rattle.std.proofs.Common.{ap, ◌∙◌, map}
use Rattle.ocfl_tree.specs.{Path.{slashed}, Place.{Place}}
use Rattle.ocfl_inventory.specs.{Note.{note}, Remark.{remark_view}}
use Rattle.ocfl_report.specs.declared.code.Code.TheVariants.{E101}
use Rattle.ocfl_inventory.proofs.Loops.{appended, appended_all, mapped_more}
use Rattle.ocfl_inventory.proofs.notes.add_conflicts.Goals as goal

pub loop-place-preserved : goal.loop-place-preserved
loop-place-preserved c =
    let line = λ (p : Place). note E101 (slashed p) in
    appended (map line) c.args.places.now c.loop-place.place-index (map remark_view c.args.out.now.items) (map remark_view c.loop-place.out.items) _ _
    (mapped_more line c.args.places.now c.loop-place.place-index c.place-item.result (note E101 c.path.result.now) c.loop-place-test.true
    (ap (note E101) c.path.ensures.value ∙ ap line c.place-item.is))
    c.loop-place.invariant c.in_ok-add.ensures

pub returns : goal.returns
returns c = appended_all (map (λ p. note E101 (slashed p))) c.args.places.now c.loop-place.place-index _ _ c.loop-place-test.false c.loop-place.invariant
