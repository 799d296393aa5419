use Rattle.std.specs.Prelude.{OnOk}
use Rattle.std.proofs.Common.{subst, sym, inl, refl}
use Rattle.ocfl_state.specs.Crash.{IsMoved, MayMove, Follows}
use Rattle.ocfl_disk.specs.{Leaving.{Leaves}, PowerCut.{Passes as DiskPasses}, Internal.Contents.{OfContent}}
use Rattle.ocfl_disk.proofs.{Folders.{lifted, durable, after_same, weaker, follows_same}, Reporting.{ok_after}}
use Rattle.ocfl_disk.proofs.fs_state.FsStateStateFolder.close.Goals as goal

pub returns-in_err-has_closed-clause-crash : goal.returns-in_err-has_closed-clause-crash
returns-in_err-has_closed-clause-crash g c = λ told. weaker _ _ _ (MayMove c.args.cycle c.args.whole) _ _ (c.has_closed.ensures.crash told) (λ content. inl refl)

pub returns-then-branch-clause-crash : goal.returns-then-branch-clause-crash
returns-then-branch-clause-crash g c = λ told. weaker _ _ _ (MayMove c.args.cycle c.args.whole) _ _ (c.has_closed.ensures.crash told) (λ content. inl refl)

pub returns-clause-durable : goal.returns-clause-durable
returns-clause-durable g c = λ told.
    subst (λ d. OnOk c.answer.result (Follows (IsMoved c.args.cycle c.args.whole) (Leaves (g.D.Disk.state c.args.self.now.disk).may_leave) (Leaves (g.D.Disk.state d).may_leave))) (sym c.answer.ensures.disk)
    (ok_after c.move_report-moved.result c.answer.result _ _
    (λ follows. follows_same (IsMoved c.args.cycle c.args.whole) _ _ _ (c.has_closed.ensures.crash told).now (durable (IsMoved c.args.cycle c.args.whole) (g.D.Disk.state c.has_closed.new.self.disk) (g.D.Disk.state c.move_report-moved.new.self.disk) follows))
    c.answer.ensures.value (c.move_report-moved.ensures.durable told))

pub returns-clause-crash : goal.returns-clause-crash
returns-clause-crash g c = λ told. after_same _ _ _ (MayMove c.args.cycle c.args.whole) _ _ _ (c.has_closed.ensures.crash told)
    (lifted (λ folder. g.D.Disk.state folder.disk) (MayMove c.args.cycle c.args.whole) c.has_closed.new.self c.answer.new.self
    (subst (λ d. DiskPasses (OfContent (MayMove c.args.cycle c.args.whole)) (g.D.Disk.state c.has_closed.new.self.disk) (g.D.Disk.state d)) (sym c.answer.ensures.disk) (c.move_report-moved.ensures.passes told)))
    (λ content. inl refl)
