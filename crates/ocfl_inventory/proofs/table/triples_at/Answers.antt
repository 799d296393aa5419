use Rattle.std.proofs.Common.{◌≤◌, sym, ◌∙◌, ap, map, drop, arith}
use Rattle.ocfl_inventory.proofs.TableSearch.{in_order, picked}
use Rattle.ocfl_inventory.proofs.table.triples_at.Goals as goal

pub split_at-requires-2 : goal.split_at-requires-2
split_at-requires-2 c =
    let h : c.first_from-first.result ≤ c.first_above_from.result = in_order c.args.place.now c.args.triples.now c.first_from-first.result c.first_above_from.result
    c.first_from-first.ensures.bound c.first_from-first.ensures.found c.first_above_from.ensures.found in
    omega (arith, h, c.split_at.ensures.front_len)

pub returns : goal.returns
returns c =
    ap (map (λ t. t.named)) (c.split_at-2.ensures.back ∙ ap (drop c.first_from-first.result) c.split_at.ensures.front)
    ∙ sym (picked c.args.place.now c.args.triples.now c.first_from-first.result c.first_above_from.result c.first_from-first.ensures.bound c.first_from-first.ensures.found c.first_above_from.ensures.found)
