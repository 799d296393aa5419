use Rattle.ocfl_mem_disk.proofs.Closing.{put_names}
use Rattle.ocfl_mem_disk.proofs.gone_lists.put.Goals as goal

pub returns : goal.returns
returns c = λ files. put_names files c.args.log.now.items c.push.new.self.items c.args.cycle c.in_ok-push.ensures.items
