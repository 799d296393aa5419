use Rattle.ocfl_part_folders.proofs.Counted.{counted_as}
use Rattle.ocfl_part_folders.proofs.asking.count_in.Goals as goal

pub returns-clause-counts : goal.returns-clause-counts
returns-clause-counts g c = λ told cycle at.
    counted_as c.counts_of.result _ _ (c.in_ok-report.ensures.made told cycle at) c.counts_of.ensures
