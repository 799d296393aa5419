use Rattle.ocfl_mem_disk.proofs.Closing.{write_beside, write_calm}
use Rattle.ocfl_mem_disk.proofs.gone_lists.write.Goals as goal

pub returns-clause-calm : goal.returns-clause-calm
returns-clause-calm c = λ files. write_calm files c.args.log.now.items c.push.new.self.items c.args.bytes c.in_ok-push.ensures.items

pub returns-clause-beside : goal.returns-clause-beside
returns-clause-beside c = λ files. write_beside files c.args.log.now.items c.push.new.self.items c.args.bytes c.in_ok-push.ensures.items
