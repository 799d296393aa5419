use Rattle.std.proofs.Common.{List, ap, ◌∙◌, ◌++◌, map}
use Rattle.std.specs.Prelude.{flat_map}
use Rattle.ocfl_inventory.specs.Notes.{repeated_notes}
use Rattle.ocfl_inventory.specs.{Internal.Parts.{block_view, supported_view}, Remark.{remark_view}}
use Rattle.ocfl_inventory.specs.declared.inventory.{Listing.{Listing}, Supported.{Supported}}
use Rattle.ocfl_inventory.proofs.Loops.{appended_all, several_more}
use Rattle.ocfl_inventory.proofs.notes.add_repeated_fixity.Goals as goal

pub loop-supported-preserved : goal.loop-supported-preserved
loop-supported-preserved c =
    several_more (λ (s : Supported). (s.algorithm, block_view s.block.items)) repeated_notes c.args.fixity.now c.loop-supported.supported-index
    c.supported-item.result (map remark_view c.args.out.now.items) (map remark_view c.loop-supported.out.items) _
    c.loop-supported-test.true c.supported-item.is c.loop-supported.invariant
    (c.in_ok-add_repeated.ensures
    ∙ ap (λ (ls : List Listing). map remark_view c.loop-supported.out.items ++ repeated_notes (c.supported-item.result.algorithm, block_view ls)) c.deref.ensures.value)

pub returns : goal.returns
returns c = appended_all (λ (ss : List Supported). flat_map repeated_notes (supported_view ss)) c.args.fixity.now c.loop-supported.supported-index _ _
    c.loop-supported-test.false c.loop-supported.invariant
