use Rattle.std.proofs.Common.{◌∙◌, ap, inl, refl}
use Rattle.ocfl_state.specs.{Crash.{IsMoved, MayMove}, Memory.{History, after_close}}
use Rattle.ocfl_state.proofs.{Images.{close, may_move}, Histories.{changed, stored}}
use Rattle.ocfl_state.proofs.memory.MemStateStateFolder.close.Goals as goal

pub returns-clause-crash : goal.returns-clause-crash
returns-clause-crash c told =
    changed (MayMove c.args.cycle c.args.whole) (after_close c.args.cycle c.args.whole) c.in_ok-next.next c.args.self.now c.begin_call.new.self c.keep.new.self c.begin_call.ensures.now c.begin_call.ensures.past (c.in_ok-next.ensures ∙ ap (λ (h : History). after_close c.args.cycle c.args.whole h.now) c.self.view_is) c.keep.ensures.either (λ content. inl refl) (may_move c.args.cycle c.args.whole c.args.self.now.now)

pub returns-clause-durable : goal.returns-clause-durable
returns-clause-durable c told =
    stored (IsMoved c.args.cycle c.args.whole) (after_close c.args.cycle c.args.whole) c.in_ok-next.next c.args.self.now c.begin_call.new.self c.keep.new.self c.keep.result c.begin_call.ensures.now (c.in_ok-next.ensures ∙ ap (λ (h : History). after_close c.args.cycle c.args.whole h.now) c.self.view_is) c.keep.ensures.ok (close c.args.cycle c.args.whole c.args.self.now.now)
