use Rattle.ocfl_laws.proofs.OverrunLaws.{less_than_the_last}
use Rattle.ocfl_laws.proofs.commands.overrun_is_less_than_the_last_file.Goals as goal

pub returns : goal.returns
returns c = less_than_the_last
