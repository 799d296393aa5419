use Rattle.ocfl_mem_disk.proofs.Named.{front_cut}
use Rattle.ocfl_mem_disk.proofs.joined_path.behind.Goals as goal

pub returns : goal.returns
returns c = front_cut c.args.front.now c.args.text.now c.strip_prefix.result c.strip_prefix.ensures.cases
