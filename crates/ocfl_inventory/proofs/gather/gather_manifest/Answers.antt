use Rattle.std.proofs.Common.{List, IsPermutation, ap, ◌∙◌, ◌++◌, subst, false}
use Rattle.ocfl_inventory.specs.{Internal.Parts.{block_view}, Table.{Triple, triples_of}}
use Rattle.ocfl_inventory.proofs.gather.gather_manifest.Goals as goal

pub returns-clause-triples : goal.returns-clause-triples
returns-clause-triples c =
    subst (λ (ts : List Triple). IsPermutation ts c.sort.new.triples.items)
    (c.in_ok-gather_block.ensures.triples
    ∙ ap (λ (ts : List Triple). ts ++ triples_of false c.args.content.now c.args.algorithm (block_view c.args.manifest.items)) c.in_ok-with_capacity.ensures.items)
    c.in_ok-sort.ensures.permutation

pub returns-clause-sorted : goal.returns-clause-sorted
returns-clause-sorted c = c.in_ok-sort.ensures.sorted
