use Rattle.std.proofs.{Common.{ℕ, ◌≤◌, Err, ap, arith, false, map, refl, subst, ◌∙◌}, lemmas.Result.{err_from_is_err_and}}
use Rattle.ocfl_report.specs.Line.{line_of}
use Rattle.ocfl_closed.specs.{Back.{AreBack}, Files.{kept_of}, Internal.{AllTaken, Stands.{stand_of}}, Words.{AreParts, HasText, IsAccount, beside_of, counted_in, runs_in}}
use Rattle.ocfl_closed.specs.Unchanged.{AreUnchanged}
use Rattle.ocfl_closed.proofs.{Backing.{cause_later}, Findings.{account_in, finds_of}, Passing.{calm_then}}
use Rattle.ocfl_closed.proofs.finding.find_changes.Goals as goal

pub returns-clause-finds : goal.returns-clause-finds
returns-clause-finds g c = λ told.
    let D = g.D.ClosedDisk in
    let contents = g.D.List.Write.contents in
    let pair = c.args.pair.now in
    let with = c.args.with.now in
    let files = (D.state c.args.disk.now).files in
    let taking = c.in_ok-taking.taking in
    let old = stand_of (contents c.new.result.out) c.new-2.result false in
    let new = stand_of (contents taking.list.out) taking.words taking.is_grave in
    let same = (c.make_list.ensures.calm told).files in
    let moved = (c.take_changes.ensures.still told).calm.files ∙ same in
    let taken = subst (λ f. AllTaken (AreParts old.known (kept_of f) pair) old new) same (c.in_ok-taking.ensures.taken told) in
    finds_of (kept_of files) pair (beside_of with (runs_in files pair) c.in_ok-found.found.account.back.items) c.in_ok-found.found.found.text.items c.in_ok-found.found.found.is_grave (D.state c.end_changes.new.disk).beside old new
    (ap contents c.new.ensures ∙ c.in_ok-list.ensures.empty told) refl c.new-2.ensures.known (ap (map line_of) c.new-2.ensures.said) taken (c.in_ok-found.ensures.list told)
    (λ p n since whole noting news. subst (λ f. HasText (beside_of with (runs_in f pair) c.in_ok-found.found.account.back.items) pair (counted_in p) n c.in_ok-found.found.found.text.items) moved
    (c.in_ok-found.ensures.text told _ _ _ n since noting whole news))
    c.in_ok-found.ensures.grave

pub returns-clause-account : goal.returns-clause-account
returns-clause-account g c = λ told.
    let D = g.D.ClosedDisk in
    let contents = g.D.List.Write.contents in
    let pair = c.args.pair.now in
    let with = c.args.with.now in
    let files = (D.state c.args.disk.now).files in
    let taking = c.in_ok-taking.taking in
    let a = c.in_ok-found.found.account in
    let old = stand_of (contents c.new.result.out) c.new-2.result false in
    let new = stand_of (contents taking.list.out) taking.words taking.is_grave in
    let same = (c.make_list.ensures.calm told).files in
    let moved = (c.take_changes.ensures.still told).calm.files ∙ same in
    let taken = subst (λ f. AllTaken (AreParts old.known (kept_of f) pair) old new) same (c.in_ok-taking.ensures.taken told) in
    account_in (beside_of with (runs_in files pair) a.back.items) files pair a old new c.new-2.ensures.known (ap (map line_of) c.new-2.ensures.said) taken
    (λ p n since whole noting news. subst (λ f. IsAccount (beside_of with (runs_in f pair) a.back.items) f pair (counted_in p) n a) moved (c.in_ok-found.ensures.account told _ _ _ n since noting whole news))

pub returns-clause-unchanged : goal.returns-clause-unchanged
returns-clause-unchanged g c = λ told. subst (λ f. AreUnchanged f c.args.pair.now) (c.make_list.ensures.calm told).files (c.in_ok-taking.ensures.unchanged told)

pub returns-clause-back : goal.returns-clause-back
returns-clause-back g c = λ told.
    let moved = (c.take_changes.ensures.still told).calm.files ∙ (c.make_list.ensures.calm told).files in
    subst (λ f. AreBack (kept_of f) c.args.pair.now c.in_ok-found.found.account.back.items) moved (c.in_ok-found.ensures.back told)

pub returns-clause-calm : goal.returns-clause-calm
returns-clause-calm g c = λ told.
    calm_then _ _ _ (c.make_list.ensures.calm told) (calm_then _ _ _ (c.take_changes.ensures.still told).calm (c.end_changes.ensures.calm told))

pub returns-in_err-found-clause-calm : goal.returns-in_err-found-clause-calm
returns-in_err-found-clause-calm g c = λ told.
    calm_then _ _ _ (c.make_list.ensures.calm told) (calm_then _ _ _ (c.take_changes.ensures.still told).calm (c.end_changes.ensures.calm told))

pub returns-clause-cause : goal.returns-clause-cause
returns-clause-cause g c = λ told.
    let first = c.in_ok-list.ensures.cause told in
    let next = c.in_ok-taking.ensures.cause told in
    let last = c.in_ok-found.ensures.cause told in
    omega (arith, first, next, last)

pub returns-in_err-found-clause-cause : goal.returns-in_err-found-clause-cause
returns-in_err-found-clause-cause g c = λ told.
    let first = c.in_ok-list.ensures.cause told in
    let next = c.in_ok-taking.ensures.cause told in
    let before : (g.D.ClosedDisk.faults c.args.disk.now) ≤ (g.D.ClosedDisk.faults c.take_changes.new.disk) = omega (arith, first, next) in
    let p = err_from_is_err_and c.from_residual-in_err-found.result c.from_residual-in_err-found.ensures.1 in
    rw (p.1, p.2) (cause_later {T = ℕ} (Err c.in_err-found.field-0.0) _ (g.D.ClosedDisk.faults c.take_changes.new.disk) _ before (c.in_err-found.ensures.cause told))
