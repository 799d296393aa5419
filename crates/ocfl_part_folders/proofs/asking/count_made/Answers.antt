use Rattle.std.proofs.Common.{◌∙◌}
use Rattle.ocfl_part_folders.proofs.asking.count_made.Goals as goal

pub returns-in-Ok-clause-counts : goal.returns-in-Ok-clause-counts
returns-in-Ok-clause-counts g c = λ told. c.in-Ok.ensures.counts told c.args.cycle (c.as_str.ensures.value ∙ c.in_ok-path.ensures told)
