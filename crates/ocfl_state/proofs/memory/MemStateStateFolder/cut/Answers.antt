use Rattle.std.proofs.Common.{◌∙◌, ap}
use Rattle.ocfl_state.specs.{Crash.{MayTear}, Memory.{History, after_cut}}
use Rattle.ocfl_state.proofs.{Images.{cut, not_torn}, Histories.{changed}}
use Rattle.ocfl_state.proofs.memory.MemStateStateFolder.cut.Goals as goal

pub returns-clause-crash : goal.returns-clause-crash
returns-clause-crash c told =
    changed (MayTear c.args.most 0) (after_cut c.args.most) c.in_ok-next.next c.args.self.now c.begin_call.new.self c.keep.new.self c.begin_call.ensures.now c.begin_call.ensures.past (c.in_ok-next.ensures ∙ ap (λ (h : History). after_cut c.args.most h.now) c.self.view_is) c.keep.ensures.either (not_torn c.args.most 0) (cut c.args.most c.args.self.now.now)
