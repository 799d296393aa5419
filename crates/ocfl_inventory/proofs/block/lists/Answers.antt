use Rattle.std.proofs.{Common.{◌≡◌, ◌++◌, ◌∷◌, [], string_bytes}, lemmas.Map.Iter.{rest_more}}
use Rattle.std.proofs.lemmas.List.{map_push}
use Rattle.serde_json.specs.View.{members_view}
use Rattle.ocfl_inventory.specs.{Reading.{lists_of}, Internal.Parts.{block_view, texts_among}}
use Rattle.ocfl_inventory.proofs.Blocks.{lists_step}
use Rattle.ocfl_inventory.proofs.block.lists.Goals as goal

pub loop-key-preserved : goal.loop-key-preserved
loop-key-preserved c =
    let k = c.in-Some.key in
    let v = c.in-Some.value in
    let e : c.loop-key.key-iterator ≡ (k, v) ∷ c.next.new.self = rest_more (λ p. p) c.loop-key.key-iterator c.next.new.self c.next.result (k, v) c.in-Some.is c.next.ensures.steps in
    let p : block_view c.push.new.self.items ≡ block_view c.loop-key.block.items ++ (string_bytes k, texts_among c.in-Some-texts_in.values.items) ∷ [] = rw (c.in_ok-push.ensures.items, map_push) in
    rw p (lists_step c.loop-key.key-iterator c.next.new.self k v (texts_among c.in-Some-texts_in.values.items) (block_view c.loop-key.block.items)
    (lists_of (members_view c.args.map.entries)) e (rw c.in-Some-texts_in.is at c.texts_in.ensures) c.loop-key.invariant)
