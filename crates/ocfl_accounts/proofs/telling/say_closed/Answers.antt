use Rattle.std.proofs.Common.{◌∙◌, ap, subst, sym}
use Rattle.ocfl_accounts.specs.{Crash.{MayPut, Passes}, Kept.{account_of, account_with}, Pairs.{status_of}, Telling.{kept_then}}
use Rattle.ocfl_accounts.proofs.{Passing.{account_passes, may_account}, Speaking.{account_said}}
use Rattle.ocfl_accounts.proofs.telling.say_closed.Goals as goal

pub returns-clause-said : goal.returns-clause-said
returns-clause-said g c = λ t h u.
    let F = g.C.Closings in
    let k = F.seen c.args.closings.now in
    let pair = c.in_ok-pair.pair in
    let found = c.in_ok-found.ensures.finds t in
    let changes = found.changes in
    let old = g.S.Say.said c.args.out.now in
    let new = g.S.Say.said c.speak.new.out in
    let closed = c.in_ok-pair.ensures.closed in
    let said = account_said k (F.seen c.find_pair.new.closings) c.args.now F.says (F.with c.args.closings.now) (F.with c.find_pair.new.closings) old new pair changes c.as_slice.result.now _ _ h u (c.find_pair.ensures.seen t) (c.find_pair.ensures.with t) closed (c.in_ok-pair.ensures.value t)
    found.are found.said c.as_slice.ensures.value c.in_ok-speak.ensures.said c.speak.ensures.grew in
    record {
      pair = pair;
      changes = changes;
      said = said.0;
      kept = c.in_ok-keep_found.ensures.kept t ∙ (λ i. kept_then pair (account_with (closed i).cycle (found.listed i)) ((c.find.ensures.seen t ∙ c.find_pair.ensures.seen t) i));
      status_is = c.status_of.ensures ∙ sym (ap (status_of pair) said.1);
    }

pub returns-clause-crash : goal.returns-clause-crash
returns-clause-crash g c = λ t h u.
    let F = g.C.Closings in
    let k = F.seen c.args.closings.now in
    let pair = c.in_ok-pair.pair in
    let found = c.in_ok-found.ensures.finds t in
    let changes = found.changes in
    let old = g.S.Say.said c.args.out.now in
    let new = g.S.Say.said c.speak.new.out in
    let closed = c.in_ok-pair.ensures.closed in
    let said = account_said k (F.seen c.find_pair.new.closings) c.args.now F.says (F.with c.args.closings.now) (F.with c.find_pair.new.closings) old new pair changes c.as_slice.result.now _ _ h u (c.find_pair.ensures.seen t) (c.find_pair.ensures.with t) closed (c.in_ok-pair.ensures.value t)
    found.are found.said c.as_slice.ensures.value c.in_ok-speak.ensures.said c.speak.ensures.grew in
    account_passes F.may_leave F.moment F.left_since k c.args.now.cycle (F.says (F.with c.args.closings.now)) old new pair changes said.0 (ap (λ x. x.cycle) closed)
    c.args.closings.now c.find_pair.new.closings c.find.new.self c.keep_found.new.closings (c.find_pair.ensures.crash t) (c.find.ensures.crash t)
    (subst (λ l. Passes F.may_leave F.moment F.left_since (MayPut (account_with pair.closed.cycle l)) c.find.new.self c.keep_found.new.closings) found.listed (c.keep_found.ensures.crash t))

pub returns-in_err-keep_found-clause-crash : goal.returns-in_err-keep_found-clause-crash
returns-in_err-keep_found-clause-crash g c = λ t h u.
    let F = g.C.Closings in
    let k = F.seen c.args.closings.now in
    let pair = c.in_ok-pair.pair in
    let found = c.in_ok-found.ensures.finds t in
    let changes = found.changes in
    let old = g.S.Say.said c.args.out.now in
    let new = g.S.Say.said c.speak.new.out in
    let closed = c.in_ok-pair.ensures.closed in
    let said = account_said k (F.seen c.find_pair.new.closings) c.args.now F.says (F.with c.args.closings.now) (F.with c.find_pair.new.closings) old new pair changes c.as_slice.result.now _ _ h u (c.find_pair.ensures.seen t) (c.find_pair.ensures.with t) closed (c.in_ok-pair.ensures.value t)
    found.are found.said c.as_slice.ensures.value c.in_ok-speak.ensures.said c.speak.ensures.grew in
    account_passes F.may_leave F.moment F.left_since k c.args.now.cycle (F.says (F.with c.args.closings.now)) old new pair changes said.0 (ap (λ x. x.cycle) closed)
    c.args.closings.now c.find_pair.new.closings c.find.new.self c.keep_found.new.closings (c.find_pair.ensures.crash t) (c.find.ensures.crash t)
    (subst (λ l. Passes F.may_leave F.moment F.left_since (MayPut (account_with pair.closed.cycle l)) c.find.new.self c.keep_found.new.closings) found.listed (c.keep_found.ensures.crash t))

pub returns-clause-may : goal.returns-clause-may
returns-clause-may g c = λ t h u.
    let F = g.C.Closings in
    let k = F.seen c.args.closings.now in
    let pair = c.in_ok-pair.pair in
    let found = c.in_ok-found.ensures.finds t in
    let changes = found.changes in
    let old = g.S.Say.said c.args.out.now in
    let new = g.S.Say.said c.speak.new.out in
    let closed = c.in_ok-pair.ensures.closed in
    let said = account_said k (F.seen c.find_pair.new.closings) c.args.now F.says (F.with c.args.closings.now) (F.with c.find_pair.new.closings) old new pair changes c.as_slice.result.now _ _ h u (c.find_pair.ensures.seen t) (c.find_pair.ensures.with t) closed (c.in_ok-pair.ensures.value t)
    found.are found.said c.as_slice.ensures.value c.in_ok-speak.ensures.said c.speak.ensures.grew in
    may_account k c.args.now.cycle (F.says (F.with c.args.closings.now)) old new pair changes said.0 (ap (λ x. x.cycle) closed) k (F.seen c.keep_found.new.closings)
    (subst (λ x. MayPut (account_of pair.closed.cycle changes) x (F.seen c.keep_found.new.closings)) (c.find.ensures.seen t ∙ c.find_pair.ensures.seen t)
    (subst (λ l. MayPut (account_with pair.closed.cycle l) (F.seen c.find.new.self) (F.seen c.keep_found.new.closings)) found.listed (c.keep_found.ensures.may t)))

pub returns-in_err-keep_found-clause-may : goal.returns-in_err-keep_found-clause-may
returns-in_err-keep_found-clause-may g c = λ t h u.
    let F = g.C.Closings in
    let k = F.seen c.args.closings.now in
    let pair = c.in_ok-pair.pair in
    let found = c.in_ok-found.ensures.finds t in
    let changes = found.changes in
    let old = g.S.Say.said c.args.out.now in
    let new = g.S.Say.said c.speak.new.out in
    let closed = c.in_ok-pair.ensures.closed in
    let said = account_said k (F.seen c.find_pair.new.closings) c.args.now F.says (F.with c.args.closings.now) (F.with c.find_pair.new.closings) old new pair changes c.as_slice.result.now _ _ h u (c.find_pair.ensures.seen t) (c.find_pair.ensures.with t) closed (c.in_ok-pair.ensures.value t)
    found.are found.said c.as_slice.ensures.value c.in_ok-speak.ensures.said c.speak.ensures.grew in
    may_account k c.args.now.cycle (F.says (F.with c.args.closings.now)) old new pair changes said.0 (ap (λ x. x.cycle) closed) k (F.seen c.keep_found.new.closings)
    (subst (λ x. MayPut (account_of pair.closed.cycle changes) x (F.seen c.keep_found.new.closings)) (c.find.ensures.seen t ∙ c.find_pair.ensures.seen t)
    (subst (λ l. MayPut (account_with pair.closed.cycle l) (F.seen c.find.new.self) (F.seen c.keep_found.new.closings)) found.listed (c.keep_found.ensures.may t)))
