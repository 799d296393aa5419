use Rattle.std.proofs.Common.{[], ap, ◌∙◌, map}
use Rattle.ocfl_inventory.specs.{Table.{Triple}, TripleView.{named_view}}
use Rattle.ocfl_inventory.proofs.Loops.{appended, appended_all, mapped_more}
use Rattle.ocfl_inventory.proofs.table.clone_named.Goals as goal

pub loop-triple-preserved : goal.loop-triple-preserved
loop-triple-preserved c =
    let name = λ (t : Triple). t.named in
    appended (map name) c.args.triples.now c.loop-triple.triple-index [] (map named_view c.loop-triple.found.items) _ _
    (mapped_more name c.args.triples.now c.loop-triple.triple-index c.triple-item.result (named_view c.named.result.now) c.loop-triple-test.true (c.named.ensures ∙ ap name c.triple-item.is))
    c.loop-triple.invariant c.in_ok-add_copy.ensures

pub returns : goal.returns
returns c = appended_all (map (λ (t : Triple). t.named)) c.args.triples.now c.loop-triple.triple-index [] _ c.loop-triple-test.false c.loop-triple.invariant
