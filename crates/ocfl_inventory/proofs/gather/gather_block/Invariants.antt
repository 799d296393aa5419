use Rattle.ocfl_inventory.specs.{Table.{triples_of}, Internal.Parts.{block_view}}
use Rattle.ocfl_inventory.specs.Internal.Gathered.{Gathers, bad_texts}
use Rattle.ocfl_inventory.proofs.gather.gather_block.Given as goal

abbrev pub invariant-loop-listing : goal.invariant-loop-listing
invariant-loop-listing l = Gathers l.initial.found l.found
    (triples_of l.source.fixity l.source.content.now l.source.algorithm (block_view l.yielded))
    (bad_texts l.source.content.now (block_view l.yielded))
