use Rattle.std.proofs.Common.{◌∙◌, inl, refl, sym, subst}
use Rattle.ocfl_accounts.specs.{Crash.{Passes}, Kept.{has_account}, Telling.{MayAccount}}
use Rattle.ocfl_accounts.proofs.Passing.{same_then, two_same}
use Rattle.ocfl_accounts.proofs.telling.say_cycle.Goals as goal

pub returns-in-There-clause-crash : goal.returns-in-There-clause-crash
returns-in-There-clause-crash g c = λ t.
    let F = g.C.Closings in
    let old = g.S.Say.said c.args.out.now in
    let new = g.S.Say.said c.say_closed.new.out in
    let sight = rw c.in-There.is at c.in_ok-now.ensures.value t in
    let same = c.look.ensures.seen t ∙ c.has_account.ensures.seen t in
    let is_there = (λ i. (c.look.ensures.seen t i).sights (sight.1 i)) ∙ sight.0 in
    let unsaid = (λ i. has_account (same i) (sight.1 i)) ∙ sym (c.in_ok-has_account.ensures.value t) ∙ c.if-branch.false in
    let with = c.look.ensures.with t ∙ c.has_account.ensures.with t in
    let says = F.says (F.with c.args.closings.now) in
    let crash = subst (λ w. Passes F.may_leave F.moment F.left_since (MayAccount (F.seen c.look.new.self) c.in-There.now.cycle (F.says w) old new) c.look.new.self c.say_closed.new.closings) with (c.say_closed.ensures.crash t is_there unsaid) in
    let crash_of = subst (λ n. Passes F.may_leave F.moment F.left_since (MayAccount (F.seen c.look.new.self) n says old new) c.look.new.self c.say_closed.new.closings) sight.1 crash in
    same_then F.may_leave F.moment F.left_since (MayAccount (F.seen c.args.closings.now) c.args.cycle says old new) (λ k. inl refl) c.args.closings.now c.look.new.self c.say_closed.new.closings
    (two_same F.may_leave F.moment F.left_since c.args.closings.now c.has_account.new.self c.look.new.self (c.has_account.ensures.crash t) (c.look.ensures.crash t))
    (subst (λ k. Passes F.may_leave F.moment F.left_since (MayAccount k c.args.cycle says old new) c.look.new.self c.say_closed.new.closings) same crash_of)

pub returns-in-There-clause-may : goal.returns-in-There-clause-may
returns-in-There-clause-may g c = λ t.
    let F = g.C.Closings in
    let old = g.S.Say.said c.args.out.now in
    let new = g.S.Say.said c.say_closed.new.out in
    let sight = rw c.in-There.is at c.in_ok-now.ensures.value t in
    let same = c.look.ensures.seen t ∙ c.has_account.ensures.seen t in
    let is_there = (λ i. (c.look.ensures.seen t i).sights (sight.1 i)) ∙ sight.0 in
    let unsaid = (λ i. has_account (same i) (sight.1 i)) ∙ sym (c.in_ok-has_account.ensures.value t) ∙ c.if-branch.false in
    let with = c.look.ensures.with t ∙ c.has_account.ensures.with t in
    let says = F.says (F.with c.args.closings.now) in
    let may = subst (λ w. MayAccount (F.seen c.look.new.self) c.in-There.now.cycle (F.says w) old new (F.seen c.look.new.self) (F.seen c.say_closed.new.closings)) with (c.say_closed.ensures.may t is_there unsaid) in
    subst (λ k. MayAccount k c.args.cycle says old new k (F.seen c.say_closed.new.closings)) same
    (subst (λ n. MayAccount (F.seen c.look.new.self) n says old new (F.seen c.look.new.self) (F.seen c.say_closed.new.closings)) sight.1 may)
