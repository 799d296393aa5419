use Rattle.std.proofs.Common.{◌≡◌, ◌∙◌, [], ap, arith, length, refl, rules, subst, sym, true}
use Rattle.std.proofs.lemmas.Result.{err_from_is_err_and}
use Rattle.std.specs.Prelude.{IsTrue}
use Rattle.ocfl_night.specs.Stopping.{ForFirst}
use Rattle.ocfl_night.proofs.Reasons.{opens_at, put_by, too_long}
use Rattle.ocfl_state.specs.{Checkpoint.{Checkpoint}, Content.{Content}}
use Rattle.ocfl_night.specs.{Beginning.{position}, Refusing.{IsUnbegun}, Sound.{IsNew}}
use Rattle.ocfl_terms.specs.declared.refusal.Refusal.TheVariants.{HasReports}
use Rattle.ocfl_night.proofs.{Moments.{unmoved}, Sound.{first_stands, mark_moments, put_ready}}
use Rattle.ocfl_night.proofs.TakingUp.{begun_moments, new_here}
use Rattle.ocfl_night.proofs.opening.begin.Goals as goal

pub returns-in_err-checkpoint-clause-any_moment : goal.returns-in_err-checkpoint-clause-any_moment
returns-in_err-checkpoint-clause-any_moment g c = λ told rounds checks only none new.
    begun_moments rounds (g.met.S.StateFolder.only_now told) only none new (c.is_new.ensures.crash told) (c.is_new.ensures.seen told)
    (λ only none new. unmoved (g.met.S.StateFolder.only_now told) (new_here rounds only none new))

pub returns-in_err-put_checkpoint-clause-any_moment : goal.returns-in_err-put_checkpoint-clause-any_moment
returns-in_err-put_checkpoint-clause-any_moment g c = λ told rounds checks only none new.
    begun_moments rounds (g.met.S.StateFolder.only_now told) only none new (c.is_new.ensures.crash told) (c.is_new.ensures.seen told)
    (λ only none new. mark_moments (g.met.S.StateFolder.only_now told) (new_here rounds only none new) only (first_stands c.args.site.now c.args.identity.now checks c.in_ok-checkpoint.ensures new) (c.put_checkpoint.ensures.crash told))

pub returns-clause-any_moment : goal.returns-clause-any_moment
returns-clause-any_moment g c = λ told rounds checks only none new.
    begun_moments rounds (g.met.S.StateFolder.only_now told) only none new (c.is_new.ensures.crash told) (c.is_new.ensures.seen told)
    (λ only none new. mark_moments (g.met.S.StateFolder.only_now told) (new_here rounds only none new) only (first_stands c.args.site.now c.args.identity.now checks c.in_ok-checkpoint.ensures new) (c.put_checkpoint.ensures.crash told))

pub returns-clause-ready : goal.returns-clause-ready
returns-clause-ready g c = λ told rounds checks only new.
    let is = c.in_ok-checkpoint.ensures in
    let still = subst (IsNew []) (sym (c.is_new.ensures.seen told)) new in
    put_ready (c.in_ok-put_checkpoint.ensures.put told) (first_stands c.args.site.now c.args.identity.now checks is still) (λ phase. ap length still.report ∙ sym (ap (λ (x : Checkpoint). x.report.bytes) is))
    (c.in_ok-put_checkpoint.ensures.durable told (c.is_new.ensures.only told only))

pub returns-clause-stands : goal.returns-clause-stands
returns-clause-stands g c = ap position c.in_ok-checkpoint.ensures

pub returns-clause-closed : goal.returns-clause-closed
returns-clause-closed g c = λ told. ap (λ (x : Content). x.closed) (c.in_ok-put_checkpoint.ensures.put told).put ∙ ap (λ (x : Content). x.closed) (c.is_new.ensures.seen told)

pub returns-then-not-branch-clause-rightly : goal.returns-then-not-branch-clause-rightly
returns-then-not-branch-clause-rightly g c = λ told why is.
    let same : HasReports ≡ why = cc is in
    subst (IsUnbegun true (g.S.StateFolder.seen c.args.folder.now)) same (refl, c.in_ok-is_new.ensures.reports told c.if-not-branch.true)

pub returns-in_err-put_checkpoint-clause-stop : goal.returns-in_err-put_checkpoint-clause-stop
returns-in_err-put_checkpoint-clause-stop g c =
    let r = c.from_residual-in_err-put_checkpoint.result in
    let p = err_from_is_err_and r c.from_residual-in_err-put_checkpoint.ensures.1 in
    let why = c.in_err-put_checkpoint.field-0.0 in
    let told = IsTrue g.S.StateFolder.told in
    let here = ForFirst c.args.site.now c.args.identity.now (g.S.StateFolder.seen c.args.folder.now) in
    let is = c.in_ok-checkpoint.ensures in
    opens_at told here _ _ r why (cc (p.1, p.2))
    (put_by told here c.in_ok-checkpoint.checkpoint _ (g.S.StateFolder.faults c.is_new.new.folder) _ why c.in_ok-is_new.ensures.stop
    (λ over. let none : c.in_ok-checkpoint.checkpoint.said ≡ 0 = ap (λ (x : Checkpoint). x.said) is in omega (arith, over))
    (λ text long. too_long (λ l same. record { is = same ∙ is; empty = λ tells. search rules; unclosed = λ tells. search rules }) long)
    c.in_err-put_checkpoint.ensures.stop)
