use Rattle.std.proofs.Common.{subst, sym, string_bytes}
use Rattle.ocfl_tree.specs.Ascending.{IsAscending}
use Rattle.ocfl_tree.proofs.Orders.{ascends_ascending}
use Rattle.ocfl_inventory.specs.{Table.{triple_cmp}, Internal.TripleOrder.{triple_total}}
use Rattle.ocfl_inventory.proofs.Inventories.{triples_once}
use Rattle.ocfl_inventory.proofs.table.make_table.Goals as goal

pub invariant_of-result : goal.invariant_of-result
invariant_of-result c = subst (IsAscending triple_cmp) (sym (triples_once c.args.triples.items c.dedup.new.self.items c.requires c.dedup.ensures.filtered))
    (ascends_ascending triple_total c.args.triples.items)

pub returns-clause-is : goal.returns-clause-is
returns-clause-is c = λ i. record {
  algorithm = c.args.algorithm;
  content = string_bytes c.args.content;
  triples =
      triples_once c.args.triples.items c.dedup.new.self.items c.requires c.dedup.ensures.filtered i;
}
