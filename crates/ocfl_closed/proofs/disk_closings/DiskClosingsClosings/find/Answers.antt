use Rattle.ocfl_closed.specs.declared.disk_closings.DiskClosings.{DiskClosings}
use Rattle.ocfl_closed.specs.Words.{means_of}
use Rattle.ocfl_closed.proofs.{Passing.{calm_by}, Saying.{found_by}}
use Rattle.ocfl_closed.proofs.disk_closings.DiskClosingsClosings.find.Goals as goal

pub returns-clause-finds : goal.returns-clause-finds
returns-clause-finds g c = λ told.
    let files = (g.D.ClosedDisk.state c.args.self.now.disk).files in
    found_by (means_of c.args.self.now.with) files c.args.pair.now _ _ _ _ (c.in_ok-found.ensures.back told) (c.in_ok-found.ensures.finds told)

pub returns-clause-crash : goal.returns-clause-crash
returns-clause-crash g c = λ told. calm_by (λ (closings : DiskClosings g.row.D.Denot). g.D.ClosedDisk.state closings.disk) c.args.self.now _ (c.find_changes.ensures.calm told)
