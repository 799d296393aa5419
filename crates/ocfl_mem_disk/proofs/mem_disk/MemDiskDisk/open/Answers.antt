use Rattle.std.proofs.Common.{ap, ◌∙◌, sym, Some, None}
use Rattle.std.specs.Prelude.{Vec}
use Rattle.std.specs.declared.alloc.Global.{Global}
use Rattle.ocfl_mem_disk.specs.declared.mem_call.MemCall.{MemCall}
use Rattle.ocfl_disk.specs.Names.{Names}
use Rattle.ocfl_disk.specs.declared.state_file.StateFile.TheVariants.{Checkpoint, Report}
use Rattle.ocfl_mem_disk.specs.Log.{Shown, disk_of}
use Rattle.ocfl_mem_disk.proofs.Calling.{names_read, found_as, found_other}
use Rattle.ocfl_mem_disk.proofs.mem_disk.MemDiskDisk.open.Goals as goal
use Rattle.ocfl_mem_disk.proofs.mem_disk.MemDiskDisk.open.Goals.{in-Checkpoint, in-Report, in_default}

pub returns-in-Some-clause-found : goal.returns-in-Some-clause-found
returns-in-Some-clause-found c = λ told. elim c.match-name.branch [
  | in-Checkpoint w ↦ found_as Checkpoint c.args.name (disk_of c.args.self.now.log.items c.args.self.now.faults).seen.names (Some c.in-Some.number) w.in-Checkpoint.is
      (sym c.in-Some.is ∙ w.found-is ∙ ap (λ (s : Shown). s.names.checkpoint) c.shown-2.view_is ∙ ap (λ (n : Names). n.checkpoint) (names_read c.args.self.now.log.items c.begin.new.self.log.items c.in_ok-shown.shown c.args.self.now.faults c.in_ok-shown.ensures.value (ap (λ (v : Vec MemCall Global). v.items) c.begin.ensures.log)))
  | in-Report w ↦ found_as Report c.args.name (disk_of c.args.self.now.log.items c.args.self.now.faults).seen.names (Some c.in-Some.number) w.in-Report.is
      (sym c.in-Some.is ∙ w.found-is ∙ ap (λ (s : Shown). s.names.report) c.shown-2.view_is ∙ ap (λ (n : Names). n.report) (names_read c.args.self.now.log.items c.begin.new.self.log.items c.in_ok-shown.shown c.args.self.now.faults c.in_ok-shown.ensures.value (ap (λ (v : Vec MemCall Global). v.items) c.begin.ensures.log)))
  | in_default w ↦ found_other c.args.name (disk_of c.args.self.now.log.items c.args.self.now.faults).seen.names (Some c.in-Some.number) w.in_default.not-Checkpoint w.in_default.not-Report
]

pub returns-clause-found : goal.returns-clause-found
returns-clause-found c = λ told. elim c.match-name.branch [
  | in-Checkpoint w ↦ found_as Checkpoint c.args.name (disk_of c.args.self.now.log.items c.args.self.now.faults).seen.names None w.in-Checkpoint.is
      (sym c.in-None.is ∙ w.found-is ∙ ap (λ (s : Shown). s.names.checkpoint) c.shown-2.view_is ∙ ap (λ (n : Names). n.checkpoint) (names_read c.args.self.now.log.items c.begin.new.self.log.items c.in_ok-shown.shown c.args.self.now.faults c.in_ok-shown.ensures.value (ap (λ (v : Vec MemCall Global). v.items) c.begin.ensures.log)))
  | in-Report w ↦ found_as Report c.args.name (disk_of c.args.self.now.log.items c.args.self.now.faults).seen.names None w.in-Report.is
      (sym c.in-None.is ∙ w.found-is ∙ ap (λ (s : Shown). s.names.report) c.shown-2.view_is ∙ ap (λ (n : Names). n.report) (names_read c.args.self.now.log.items c.begin.new.self.log.items c.in_ok-shown.shown c.args.self.now.faults c.in_ok-shown.ensures.value (ap (λ (v : Vec MemCall Global). v.items) c.begin.ensures.log)))
  | in_default w ↦ found_other c.args.name (disk_of c.args.self.now.log.items c.args.self.now.faults).seen.names None w.in_default.not-Checkpoint w.in_default.not-Report
]
