use Rattle.std.proofs.{Common.{rules}, lemmas.List.Sorted.{IsPartitionPoint-from_clause}}
use Rattle.std.specs.{Prelude.{not}, Ordering.{is_lt}}
use Rattle.ocfl_tree.specs.Place.{place_cmp}
use Rattle.ocfl_inventory.proofs.TableSearch.{parted_above, above_point}
use Rattle.ocfl_inventory.proofs.table.first_above.Goals as goal

pub returns-clause-found : goal.returns-clause-found
returns-clause-found c = above_point c.args.triples.now c.args.place.now c.partition_point.result
    (IsPartitionPoint-from_clause (λ t. not (is_lt (place_cmp c.args.place.now t.path))) c.args.triples.now c.partition_point.result
    c.partition_point.ensures.partitioned (parted_above c.args.triples.now c.args.place.now c.requires) (λ a r f h. search rules))
