use Rattle.std.proofs.Common.{subst, sym, refl}
use Rattle.ocfl_state.specs.Calls.{HasLong, HasCauseOr}
use Rattle.ocfl_disk.specs.Names.{content_of}
use Rattle.ocfl_disk.proofs.Folders.{cause_or}
use Rattle.ocfl_disk.proofs.fs_state.FsStateStateFolder.checkpoint.Goals as goal

pub returns-clause-cause : goal.returns-clause-cause
returns-clause-cause g c = λ told.
    subst (λ d. HasCauseOr (HasLong (content_of (g.D.Disk.state c.args.self.now.disk).seen).checkpoint) (g.D.Disk.state c.args.self.now.disk).faults (g.D.Disk.state d).faults c.answer.result) (sym c.answer.ensures.disk)
    (cause_or _ (g.D.Disk.state c.args.self.now.disk) (g.D.Disk.state c.read_checkpoint-found.new.disk) c.read_checkpoint-found.result c.answer.result (c.read_checkpoint-found.ensures.calm told).passes.faults (c.read_checkpoint-found.ensures.cause told refl) c.answer.ensures.err)
