use Rattle.std.proofs.Common.{◌≡◌, ◌∙◌, ap, subst, length}
use Rattle.std.specs.Prelude.{OnOk}
use Rattle.ocfl_accounts.specs.{Crash.{Passes, Follows, IsPut, MayPut}, Kept.{Account, with_account}}
use Rattle.ocfl_accounts.specs.Memory.{Folder, kept_of, leaves_now, left_since}
use Rattle.ocfl_accounts.proofs.Memories.{put_kept, put_lasts, put_may, put_or_not}
use Rattle.ocfl_accounts.proofs.memory.MemClosingsClosings.put.Goals as goal

pub returns-clause-crash : goal.returns-clause-crash
returns-clause-crash c = λ t.
    subst (λ (a : Account). Passes leaves_now (λ (f : Folder). length f.content.accounts) left_since (MayPut a) c.args.self.now c.keep.new.self)
    (λ i. record { cycle = c.cycle.ensures i; list = (ap (λ v. v.items) c.replace.ensures.value ∙ ap (λ (f : Folder). f.found) c.self.view_is ∙ c.begin_call.ensures.found) i })
    (put_or_not c.keep.result _ c.args.self.now _ c.keep.new.self (ap (λ (f : Folder). f.content) c.self.view_is ∙ c.begin_call.ensures.content) c.keep.ensures.ok c.keep.ensures.err)

pub returns-clause-put : goal.returns-clause-put
returns-clause-put c = λ t.
    subst (λ (a : Account). OnOk c.keep.result (kept_of c.keep.new.self.content ≡ with_account a (kept_of c.args.self.now.content)))
    (λ i. record { cycle = c.cycle.ensures i; list = (ap (λ v. v.items) c.replace.ensures.value ∙ ap (λ (f : Folder). f.found) c.self.view_is ∙ c.begin_call.ensures.found) i })
    (put_kept c.keep.result _ c.args.self.now _ c.keep.new.self (ap (λ (f : Folder). f.content) c.self.view_is ∙ c.begin_call.ensures.content) c.keep.ensures.ok)

pub returns-clause-may : goal.returns-clause-may
returns-clause-may c = λ t.
    subst (λ (a : Account). MayPut a (kept_of c.args.self.now.content) (kept_of c.keep.new.self.content))
    (λ i. record { cycle = c.cycle.ensures i; list = (ap (λ v. v.items) c.replace.ensures.value ∙ ap (λ (f : Folder). f.found) c.self.view_is ∙ c.begin_call.ensures.found) i })
    (put_may c.keep.result _ c.args.self.now _ c.keep.new.self (ap (λ (f : Folder). f.content) c.self.view_is ∙ c.begin_call.ensures.content) c.keep.ensures.ok c.keep.ensures.err)

pub returns-clause-durable : goal.returns-clause-durable
returns-clause-durable c = λ t.
    subst (λ (a : Account). OnOk c.keep.result (Follows (IsPut a) (leaves_now c.args.self.now) (leaves_now c.keep.new.self)))
    (λ i. record { cycle = c.cycle.ensures i; list = (ap (λ v. v.items) c.replace.ensures.value ∙ ap (λ (f : Folder). f.found) c.self.view_is ∙ c.begin_call.ensures.found) i })
    (put_lasts c.keep.result _ c.args.self.now _ c.keep.new.self (ap (λ (f : Folder). f.content) c.self.view_is ∙ c.begin_call.ensures.content) c.keep.ensures.ok)
