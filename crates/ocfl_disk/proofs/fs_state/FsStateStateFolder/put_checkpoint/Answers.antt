use Rattle.std.specs.Prelude.{OnOk}
use Rattle.std.proofs.Common.{subst, sym}
use Rattle.ocfl_state.specs.{Calls.{IsLong, HasCauseOr}, Crash.{IsPut, MayPut, Follows}}
use Rattle.ocfl_disk.specs.{Leaving.{Leaves}, PowerCut.{Passes as DiskPasses}, Internal.Contents.{OfContent}}
use Rattle.ocfl_disk.proofs.{Folders.{cause_or, lifted, durable}, Reporting.{ok_after}}
use Rattle.ocfl_disk.proofs.fs_state.FsStateStateFolder.put_checkpoint.Goals as goal

pub returns-clause-durable : goal.returns-clause-durable
returns-clause-durable g c = λ told.
    subst (λ d. OnOk c.answer.result (Follows (IsPut c.args.bytes.now) (Leaves (g.D.Disk.state c.args.self.now.disk).may_leave) (Leaves (g.D.Disk.state d).may_leave))) (sym c.answer.ensures.disk)
    (ok_after c.replace_checkpoint-put.result c.answer.result _ _ (durable (IsPut c.args.bytes.now) (g.D.Disk.state c.args.self.now.disk) (g.D.Disk.state c.replace_checkpoint-put.new.disk)) c.answer.ensures.value (c.replace_checkpoint-put.ensures.durable told))

pub returns-clause-crash : goal.returns-clause-crash
returns-clause-crash g c = λ told. lifted (λ folder. g.D.Disk.state folder.disk) (MayPut c.args.bytes.now) c.args.self.now c.answer.new.self
    (subst (λ d. DiskPasses (OfContent (MayPut c.args.bytes.now)) (g.D.Disk.state c.args.self.now.disk) (g.D.Disk.state d)) (sym c.answer.ensures.disk) (c.replace_checkpoint-put.ensures.replaces told).passes)

pub returns-clause-cause : goal.returns-clause-cause
returns-clause-cause g c = λ told.
    subst (λ d. HasCauseOr (IsLong c.args.bytes.now) (g.D.Disk.state c.args.self.now.disk).faults (g.D.Disk.state d).faults c.answer.result) (sym c.answer.ensures.disk)
    (cause_or _ (g.D.Disk.state c.args.self.now.disk) (g.D.Disk.state c.replace_checkpoint-put.new.disk) c.replace_checkpoint-put.result c.answer.result (c.replace_checkpoint-put.ensures.replaces told).passes.faults (c.replace_checkpoint-put.ensures.cause told) c.answer.ensures.err)
