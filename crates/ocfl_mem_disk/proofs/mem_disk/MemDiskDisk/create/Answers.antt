use Rattle.std.proofs.Common.{ap, sym, ◌∙◌, length}
use Rattle.std.specs.Option.{is_some}
use Rattle.ocfl_mem_disk.specs.Log.{Shown}
use Rattle.ocfl_mem_disk.proofs.Calling.{made_new, made_report}
use Rattle.ocfl_mem_disk.proofs.mem_disk.MemDiskDisk.create.Goals as goal

pub returns-in-NewCheckpoint-clause-made : goal.returns-in-NewCheckpoint-clause-made
returns-in-NewCheckpoint-clause-made c = λ told. made_new c.args.name c.len-number.result c.in_ok-shown.shown c.args.self.now.log.items c.make.new.self.log.items c.args.self.now.faults c.make.new.self.faults c.in-NewCheckpoint.is
    (c.len-number.ensures ∙ c.shown-2.inside.files.ok.0 ∙ ap (λ (s : Shown). length s.files) c.shown-2.view_is) c.in_ok-shown.ensures.value
    (sym (ap (λ (s : Shown). is_some s.names.beside) c.shown-2.view_is) ∙ c.if-is_none.ensures) c.in_ok-make-in-NewCheckpoint.ensures.ok c.make.ensures.later

pub returns-in-Report-clause-made : goal.returns-in-Report-clause-made
returns-in-Report-clause-made c = λ told. made_report c.args.name c.len-number.result c.in_ok-shown.shown c.args.self.now.log.items c.make-in-Report.new.self.log.items c.args.self.now.faults c.make-in-Report.new.self.faults c.in-Report.is
    (c.len-number.ensures ∙ c.shown-2.inside.files.ok.0 ∙ ap (λ (s : Shown). length s.files) c.shown-2.view_is) c.in_ok-shown.ensures.value
    (sym (ap (λ (s : Shown). is_some s.names.report) c.shown-2.view_is) ∙ c.if-is_none-2.ensures) c.in_ok-make-in-Report.ensures.ok c.make-in-Report.ensures.later
