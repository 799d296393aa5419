use Rattle.std.proofs.{Common.{rules}, lemmas.List.Sorted.{IsPartitionPoint-from_clause}}
use Rattle.std.specs.Ordering.{is_lt}
use Rattle.ocfl_tree.specs.Place.{place_cmp}
use Rattle.ocfl_messages.proofs.Knowns.{parted_from}
use Rattle.ocfl_messages.proofs.known.first_at.Goals as goal

pub returns-clause-found : goal.returns-clause-found
returns-clause-found c = IsPartitionPoint-from_clause (λ e. is_lt (place_cmp e.line.place c.args.place.now)) c.args.entries.now c.partition_point.result
    c.partition_point.ensures.partitioned (parted_from c.args.entries.now c.args.place.now c.requires) (λ a r f h. search rules)
