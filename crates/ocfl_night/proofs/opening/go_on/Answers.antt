use Rattle.std.proofs.{Common.{◌∙◌, ap, subst}, lemmas.Result.{err_from_is_err_and}}
use Rattle.ocfl_state.specs.Content.{Content}
use Rattle.ocfl_night.specs.Steps.{IsOpened}
use Rattle.ocfl_night.proofs.{Heard.{is_err}, Moments.{joined_moments, unchanged}}
use Rattle.ocfl_night.proofs.{Sound.{settled_sound}, TakingUp.{settled_still}}
use Rattle.ocfl_night.proofs.opening.go_on.Goals as goal

pub returns-in_err-refuse_older-clause-any_moment : goal.returns-in_err-refuse_older-clause-any_moment
returns-in_err-refuse_older-clause-any_moment g c = λ told rounds t r. unchanged (g.met.S.StateFolder.only_now told) (settled_sound r) (c.refuse_older.ensures.crash told)

pub returns-in_err-resume-clause-any_moment : goal.returns-in_err-resume-clause-any_moment
returns-in_err-resume-clause-any_moment g c = λ told rounds t r.
    let still = settled_still r (c.refuse_older.ensures.seen told) (c.refuse_older.ensures.crash told) in
    joined_moments (unchanged (g.met.S.StateFolder.only_now told) (settled_sound r) (c.refuse_older.ensures.crash told)) (c.resume.ensures.any_moment told rounds t still)

pub returns-clause-any_moment : goal.returns-clause-any_moment
returns-clause-any_moment g c = λ told rounds t r.
    let still = settled_still r (c.refuse_older.ensures.seen told) (c.refuse_older.ensures.crash told) in
    joined_moments (unchanged (g.met.S.StateFolder.only_now told) (settled_sound r) (c.refuse_older.ensures.crash told)) (c.resume.ensures.any_moment told rounds t still)

pub returns-clause-ready : goal.returns-clause-ready
returns-clause-ready g c = λ told rounds t r.
    c.in_ok-resume.ensures.ready told rounds t (settled_still r (c.refuse_older.ensures.seen told) (c.refuse_older.ensures.crash told))

pub returns-clause-closed : goal.returns-clause-closed
returns-clause-closed g c = λ told. c.in_ok-resume.ensures.closed told ∙ ap (λ (x : Content). x.closed) (c.refuse_older.ensures.seen told)

pub returns-clause-opened : goal.returns-clause-opened
returns-clause-opened g c = λ told.
    subst (λ (x : Content). IsOpened c.args.identity.now c.args.checkpoint x c.in_ok-resume.field-0) (c.refuse_older.ensures.seen told) (c.in_ok-resume.ensures.opened told)

pub returns-in_err-refuse_older-clause-rightly : goal.returns-in_err-refuse_older-clause-rightly
returns-in_err-refuse_older-clause-rightly g c = λ told why is.
    let p = err_from_is_err_and c.from_residual.result c.from_residual.ensures.1 in
    c.in_err-refuse_older.ensures.rightly told why (cc (p.1, p.2, is))

pub returns-in_err-refuse_older-clause-older : goal.returns-in_err-refuse_older-clause-older
returns-in_err-refuse_older-clause-older g c = λ told n below older.
    (is_err _ c.from_residual.result c.from_residual.ensures.1, record { same = c.refuse_older.ensures.seen told; crash = c.refuse_older.ensures.crash told })

pub returns-in_err-resume-clause-older : goal.returns-in_err-resume-clause-older
returns-in_err-resume-clause-older g c = λ told n below older. absurd (c.in_ok-refuse_older.ensures.newest told n below older)

pub returns-clause-older : goal.returns-clause-older
returns-clause-older g c = λ told n below older. absurd (c.in_ok-refuse_older.ensures.newest told n below older)
