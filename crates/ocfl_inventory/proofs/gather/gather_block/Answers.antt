use Rattle.std.proofs.Common.{map, filter, string_bytes}
use Rattle.ocfl_inventory.specs.Internal.Gathered.{is_bad, key_triples}
use Rattle.ocfl_inventory.specs.Internal.Parts.{listing_view}
use Rattle.ocfl_inventory.proofs.Gatherings.{joined_push}
use Rattle.ocfl_inventory.proofs.gather.gather_block.Goals as goal

pub loop-listing-preserved : goal.loop-listing-preserved
loop-listing-preserved c = record {
  triples = joined_push listing_view (key_triples c.args.source.now.fixity c.args.source.now.content.now c.args.source.now.algorithm) c.loop-listing.yielded
      c.in-Some.listing c.args.found.now.triples.items _ _ c.loop-listing.invariant.triples c.in_ok-gather_listing.ensures.triples;
  bad = joined_push listing_view (λ e. filter (is_bad c.args.source.now.content.now) e.1) c.loop-listing.yielded c.in-Some.listing
      (map string_bytes c.args.found.now.bad.items) _ _ c.loop-listing.invariant.bad c.in_ok-gather_listing.ensures.bad;
}
