use Rattle.std.proofs.Common.{List, Some, ap, sym, ◌∙◌}
use Rattle.std.specs.Prelude.{Vec}
use Rattle.std.specs.Option.{option_map}
use Rattle.std.specs.declared.alloc.Global.{Global}
use Rattle.ocfl_disk.specs.{Losing.{after_calls}, Names.{Names}}
use Rattle.ocfl_mem_disk.specs.Log.{Shown, calls_of}
use Rattle.ocfl_mem_disk.specs.declared.mem_call.MemCall.{MemCall}
use Rattle.ocfl_mem_disk.proofs.Calling.{names_read}
use Rattle.ocfl_mem_disk.proofs.mem_disk.MemDisk.report_bytes.Goals as goal

pub returns-in-Some-clause-value : goal.returns-in-Some-clause-value
returns-in-Some-clause-value c =
    let log = ap (λ (v : Vec MemCall Global). v.items) c.begin.ensures.log in
    let named = ap (λ (s : Shown). s.names.report) c.shown-2.view_is
    ∙ ap (λ (n : Names). n.report) (names_read c.args.self.now.log.items c.begin.new.self.log.items c.in_ok-shown.shown c.args.self.now.faults c.in_ok-shown.ensures.value log) in
    ap Some (c.in_ok-bytes-in-Some.ensures.value ∙ ap (λ (l : List MemCall). (after_calls (calls_of l)).seen.bytes c.in-Some.file) log)
    ∙ ap (option_map (after_calls (calls_of c.args.self.now.log.items)).seen.bytes) (sym c.in-Some.is ∙ named)

pub returns-clause-value : goal.returns-clause-value
returns-clause-value c =
    let log = ap (λ (v : Vec MemCall Global). v.items) c.begin.ensures.log in
    let named = ap (λ (s : Shown). s.names.report) c.shown-2.view_is
    ∙ ap (λ (n : Names). n.report) (names_read c.args.self.now.log.items c.begin.new.self.log.items c.in_ok-shown.shown c.args.self.now.faults c.in_ok-shown.ensures.value log) in
    ap (option_map (after_calls (calls_of c.args.self.now.log.items)).seen.bytes) (sym c.in-None.is ∙ named)
