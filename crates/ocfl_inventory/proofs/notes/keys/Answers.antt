use Rattle.std.proofs.Common.{List, [], ap, ◌∙◌, string_bytes}
use Rattle.ocfl_inventory.specs.{DigestText.{folded}, Notes.{folded_keys}}
use Rattle.ocfl_inventory.specs.Internal.Parts.{block_view, listing_view}
use Rattle.ocfl_inventory.specs.declared.inventory.Listing.{Listing}
use Rattle.ocfl_inventory.proofs.Loops.{appended, appended_all, seen_more}
use Rattle.ocfl_inventory.proofs.notes.keys.Goals as goal

pub loop-listing-preserved : goal.loop-listing-preserved
loop-listing-preserved c =
    appended (λ (ls : List Listing). folded_keys (block_view ls)) c.args.block.now c.loop-listing.listing-index [] c.loop-listing.found.items _ _
    (seen_more (λ e. folded e.0) listing_view c.args.block.now c.loop-listing.listing-index c.listing-item.result c.new.result c.loop-listing-test.true
    (c.new.ensures ∙ ap folded (c.as_str.ensures.value ∙ ap (λ (l : Listing). string_bytes l.key) c.listing-item.is)))
    c.loop-listing.invariant c.in_ok-push.ensures.items

pub returns : goal.returns
returns c = appended_all (λ (ls : List Listing). folded_keys (block_view ls)) c.args.block.now c.loop-listing.listing-index [] _ c.loop-listing-test.false c.loop-listing.invariant
