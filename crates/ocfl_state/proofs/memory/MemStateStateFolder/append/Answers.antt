use Rattle.std.proofs.Common.{◌∙◌, ap, ◌++◌, length}
use Rattle.ocfl_state.specs.{Crash.{MayTear}, Memory.{History, after_append}}
use Rattle.ocfl_state.proofs.{Images.{append, not_torn}, Histories.{changed}}
use Rattle.ocfl_state.proofs.memory.MemStateStateFolder.append.Goals as goal

pub returns-clause-crash : goal.returns-clause-crash
returns-clause-crash c told =
    let old = c.args.self.now.now in
    let bytes = c.args.bytes.now in
    let most = length (old.content.report ++ bytes) in
    changed (MayTear (length old.content.report) most) (after_append bytes) c.in_ok-next.next c.args.self.now c.begin_call.new.self c.keep.new.self c.begin_call.ensures.now c.begin_call.ensures.past (c.in_ok-next.ensures ∙ ap (λ (h : History). after_append c.args.bytes.now h.now) c.self.view_is) c.keep.ensures.either (not_torn (length old.content.report) most) (append bytes old)
