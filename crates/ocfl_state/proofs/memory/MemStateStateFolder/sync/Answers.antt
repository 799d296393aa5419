use Rattle.std.proofs.Common.{◌∙◌, ap, refl}
use Rattle.ocfl_state.specs.{Crash.{Same}, Memory.{History, Kept, kept_whole}}
use Rattle.ocfl_state.proofs.{Images.{sync}, Histories.{changed}}
use Rattle.ocfl_state.proofs.memory.MemStateStateFolder.sync.Goals as goal

pub returns-clause-crash : goal.returns-clause-crash
returns-clause-crash c told =
    changed Same (λ (k : Kept). kept_whole k.content) c.in_ok-next.next c.args.self.now c.begin_call.new.self c.keep.new.self c.begin_call.ensures.now c.begin_call.ensures.past (c.in_ok-next.ensures ∙ ap (λ (h : History). (λ (k : Kept). kept_whole k.content) h.now) c.self.view_is) c.keep.ensures.either (λ content. refl) (sync c.args.self.now.now)
