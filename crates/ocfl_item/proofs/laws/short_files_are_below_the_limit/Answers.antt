use Rattle.ocfl_item.proofs.ShortLaws.{short_files}
use Rattle.ocfl_item.proofs.laws.short_files_are_below_the_limit.Goals as goal

pub returns : goal.returns
returns c root = short_files root
