use Rattle.std.proofs.Common.{◌∙◌, ap, inl, refl}
use Rattle.ocfl_state.specs.{Crash.{IsPut, MayPut}, Memory.{History, after_put}}
use Rattle.ocfl_state.proofs.{Images.{put, may_put}, Histories.{changed, stored}}
use Rattle.ocfl_state.proofs.memory.MemStateStateFolder.put_checkpoint.Goals as goal

pub returns-clause-crash : goal.returns-clause-crash
returns-clause-crash c told =
    changed (MayPut c.args.bytes.now) (after_put c.args.bytes.now) c.in_ok-next.next c.args.self.now c.begin_call.new.self c.keep.new.self c.begin_call.ensures.now c.begin_call.ensures.past (c.in_ok-next.ensures ∙ ap (λ (h : History). after_put c.args.bytes.now h.now) c.self.view_is) c.keep.ensures.either (λ content. inl refl) (may_put c.args.bytes.now c.args.self.now.now)

pub returns-clause-durable : goal.returns-clause-durable
returns-clause-durable c told =
    stored (IsPut c.args.bytes.now) (after_put c.args.bytes.now) c.in_ok-next.next c.args.self.now c.begin_call.new.self c.keep.new.self c.keep.result c.begin_call.ensures.now (c.in_ok-next.ensures ∙ ap (λ (h : History). after_put c.args.bytes.now h.now) c.self.view_is) c.keep.ensures.ok (put c.args.bytes.now c.args.self.now.now)
