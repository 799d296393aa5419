use Rattle.std.proofs.Common.{map, true, string_bytes}
use Rattle.ocfl_inventory.specs.{Table.{triples_of}, Internal.Gathered.{bad_texts}}
use Rattle.ocfl_inventory.specs.Internal.Parts.{block_view}
use Rattle.ocfl_inventory.specs.declared.inventory.Supported.{Supported}
use Rattle.ocfl_inventory.proofs.Gatherings.{joined_push}
use Rattle.ocfl_inventory.proofs.gather.gather_fixity.Goals as goal

pub loop-supported-preserved : goal.loop-supported-preserved
loop-supported-preserved c = record {
  triples = joined_push (λ (s : Supported). (s.algorithm, block_view s.block.items)) (λ e. triples_of true c.args.content.now e.0 e.1) c.loop-supported.yielded
      c.in-Some.supported c.args.found.now.triples.items _ _ c.loop-supported.invariant.triples c.in_ok-gather_block.ensures.triples;
  bad = joined_push (λ (s : Supported). (s.algorithm, block_view s.block.items)) (λ e. bad_texts c.args.content.now e.1) c.loop-supported.yielded
      c.in-Some.supported (map string_bytes c.args.found.now.bad.items) _ _ c.loop-supported.invariant.bad c.in_ok-gather_block.ensures.bad;
}
