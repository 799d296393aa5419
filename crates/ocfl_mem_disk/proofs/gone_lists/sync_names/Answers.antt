use Rattle.ocfl_mem_disk.proofs.Closing.{folder_calm, folder_named}
use Rattle.ocfl_mem_disk.proofs.gone_lists.sync_names.Goals as goal

pub returns-clause-calm : goal.returns-clause-calm
returns-clause-calm c = λ files. folder_calm files c.args.log.now.items c.push.new.self.items c.in_ok-push.ensures.items

pub returns-clause-named : goal.returns-clause-named
returns-clause-named c = λ files. folder_named files c.args.log.now.items c.push.new.self.items c.in_ok-push.ensures.items
