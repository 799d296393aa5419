use Rattle.std.proofs.Common.{ap, ◌∙◌}
use Rattle.std.specs.Prelude.{Vec}
use Rattle.std.specs.declared.alloc.Global.{Global}
use Rattle.ocfl_mem_disk.specs.declared.mem_call.MemCall.{MemCall}
use Rattle.ocfl_disk.specs.Disk.{has_name}
use Rattle.ocfl_disk.specs.Names.{Names}
use Rattle.ocfl_mem_disk.specs.Log.{Shown}
use Rattle.ocfl_mem_disk.proofs.Calling.{names_read}
use Rattle.ocfl_mem_disk.proofs.mem_disk.MemDiskDisk.has_closed.Goals as goal

pub returns-clause-value : goal.returns-clause-value
returns-clause-value c = λ told. c.is_among.ensures
    ∙ ap (has_name c.args.cycle c.args.whole) (c.deref.ensures.value ∙ ap (λ (s : Shown). s.names.closed) c.shown-2.view_is
    ∙ ap (λ (n : Names). n.closed) (names_read c.args.self.now.log.items c.begin.new.self.log.items c.in_ok-shown.shown c.args.self.now.faults c.in_ok-shown.ensures.value (ap (λ (v : Vec MemCall Global). v.items) c.begin.ensures.log)))
