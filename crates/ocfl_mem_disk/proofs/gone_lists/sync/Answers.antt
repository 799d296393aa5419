use Rattle.ocfl_mem_disk.proofs.Closing.{sync_still, sync_synced}
use Rattle.ocfl_mem_disk.proofs.gone_lists.sync.Goals as goal

pub returns-clause-still : goal.returns-clause-still
returns-clause-still c = λ files. sync_still files c.args.log.now.items c.push.new.self.items c.in_ok-push.ensures.items

pub returns-clause-synced : goal.returns-clause-synced
returns-clause-synced c = λ files. sync_synced files c.args.log.now.items c.push.new.self.items c.in_ok-push.ensures.items
