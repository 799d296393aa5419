use Rattle.ocfl_join_disk.proofs.{Beside.{others_written}, Joined.{same_written}, Putting.{written_puts}}
use Rattle.ocfl_join_disk.proofs.making.MakingReports.flush.Goals as goal

pub returns-in_err-append-clause-put : goal.returns-in_err-append-clause-put
returns-in_err-append-clause-put g c = λ told.
    same_written _ _ _ _ _ _ (g.met.D.JoinDisk.is_disk told c.args.self.now.parts.disk) (c.args.self.now.made_is told c.in-Some.file c.in-Some.is) (c.append.ensures.writes told)

pub returns-clause-put : goal.returns-clause-put
returns-clause-put g c = λ told.
    same_written _ _ _ _ _ _ (g.met.D.JoinDisk.is_disk told c.args.self.now.parts.disk) (c.args.self.now.made_is told c.in-Some.file c.in-Some.is) (c.append.ensures.writes told)

pub returns-in_err-append-clause-crash : goal.returns-in_err-append-clause-crash
returns-in_err-append-clause-crash g c = λ told.
    written_puts _ _ _ _ _ _ (g.met.D.JoinDisk.is_disk told c.args.self.now.parts.disk) (c.args.self.now.made_is told c.in-Some.file c.in-Some.is) (c.append.ensures.writes told)

pub returns-clause-crash : goal.returns-clause-crash
returns-clause-crash g c = λ told.
    written_puts _ _ _ _ _ _ (g.met.D.JoinDisk.is_disk told c.args.self.now.parts.disk) (c.args.self.now.made_is told c.in-Some.file c.in-Some.is) (c.append.ensures.writes told)

pub returns-in_err-append-clause-others : goal.returns-in_err-append-clause-others
returns-in_err-append-clause-others g c = λ told.
    others_written _ _ _ _ _ _ (g.met.D.JoinDisk.is_disk told c.args.self.now.parts.disk) (c.args.self.now.made_is told c.in-Some.file c.in-Some.is) (c.append.ensures.writes told)

pub returns-clause-others : goal.returns-clause-others
returns-clause-others g c = λ told.
    others_written _ _ _ _ _ _ (g.met.D.JoinDisk.is_disk told c.args.self.now.parts.disk) (c.args.self.now.made_is told c.in-Some.file c.in-Some.is) (c.append.ensures.writes told)
