use Rattle.std.proofs.Common.{subst, sym}
use Rattle.ocfl_accounts.specs.{Crash.{MayPut}, Kept.{account_with}}
use Rattle.ocfl_closed.specs.Files.{kept_of}
use Rattle.ocfl_closed.proofs.Passing.{may_kept}
use Rattle.ocfl_closed.proofs.disk_closings.DiskClosingsClosings.put.Goals as goal

pub returns-in_err-put_list-clause-may : goal.returns-in_err-put_list-clause-may
returns-in_err-put_list-clause-may g c = λ told.
    let d = g.D.ClosedDisk.state c.args.self.now.disk in
    let e = g.D.ClosedDisk.state c.put_list.new.disk in
    subst (λ n. MayPut (account_with n d.beside) (kept_of d.files) (kept_of e.files)) c.cycle.ensures (may_kept (account_with c.cycle.result d.beside) d.files e.files (c.put_list.ensures.may told))

pub returns-clause-may : goal.returns-clause-may
returns-clause-may g c = λ told.
    let d = g.D.ClosedDisk.state c.args.self.now.disk in
    let e = g.D.ClosedDisk.state c.put_list.new.disk in
    subst (λ f. MayPut (account_with c.args.pair.now.closed.cycle d.beside) (kept_of d.files) (kept_of f)) (sym (c.log.ensures.calm told).files)
    (subst (λ n. MayPut (account_with n d.beside) (kept_of d.files) (kept_of e.files)) c.cycle.ensures (may_kept (account_with c.cycle.result d.beside) d.files e.files (c.put_list.ensures.may told)))
