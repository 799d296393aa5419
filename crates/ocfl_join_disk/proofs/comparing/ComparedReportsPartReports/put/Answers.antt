use Rattle.std.proofs.Common.{true}
use Rattle.ocfl_join_disk.proofs.Joined.{durable_found}
use Rattle.ocfl_join_disk.proofs.comparing.ComparedReportsPartReports.put.Goals as goal

pub returns-clause-durable : goal.returns-clause-durable
returns-clause-durable g c = λ told. durable_found c.find_end.new.self.cycle c.find_end.new.self.whole true _ (g.met.D.JoinDisk.is_disk told c.sync_names.new.self.disk) (c.in_ok-sync_names.ensures.names told)
