use Rattle.std.proofs.lemmas.Result.{err_from_is_err_and}
use Rattle.std.specs.Prelude.{IsTrue}
use Rattle.ocfl_tree.specs.Place.{Place}
use Rattle.ocfl_state.specs.Checkpoint.{Checkpoint}
use Rattle.ocfl_night.specs.{Leaving.{branch_at}, Steps.{with_left}, Stopping.{ForPut}}
use Rattle.ocfl_night.proofs.Reasons.{put_wider, stops_at}
use Rattle.std.proofs.Common.{◌≡◌, ◌∙◌, ◌++◌, ap, arith, inl, inr, subst, sym}
use Rattle.ocfl_night.specs.{Done.{Done, done_of}, Leaving.{done_by, left_by}, Promises.{IsBranchNext}, declared.tally.Remedy.{Remedy}}
use Rattle.ocfl_night.proofs.{Branches.{left_branch}, Heard.{on_err}, Moments.{unmoved}, Sound.{ready_sound}}
use Rattle.ocfl_night.specs.Again.{GoesOn}
use Rattle.ocfl_night.proofs.Again.{goes_self, ready_there}
use Rattle.ocfl_night.proofs.nights.pass_by.Goals as goal

pub returns-then-ne-clause-any_moment : goal.returns-then-ne-clause-any_moment
returns-then-ne-clause-any_moment g c = λ told rounds next t r. unmoved (g.met.S.StateFolder.only_now told) (ready_sound r)

pub returns-in_err-remedy-clause-any_moment : goal.returns-in_err-remedy-clause-any_moment
returns-in_err-remedy-clause-any_moment g c = λ told rounds next t r. unmoved (g.met.S.StateFolder.only_now told) (ready_sound r)

pub returns-in-TryAgain-clause-any_moment : goal.returns-in-TryAgain-clause-any_moment
returns-in-TryAgain-clause-any_moment g c = λ told rounds next t r. unmoved (g.met.S.StateFolder.only_now told) (ready_sound r)

pub returns-in-TryAgain-clause-done : goal.returns-in-TryAgain-clause-done
returns-in-TryAgain-clause-done g c = λ there. ap (done_by c.args.checkpoint c.args.place) (sym c.in-TryAgain.is ∙ c.in_ok-remedy.ensures.is)

pub returns-in-Halt-clause-any_moment : goal.returns-in-Halt-clause-any_moment
returns-in-Halt-clause-any_moment g c = λ told rounds next t r. unmoved (g.met.S.StateFolder.only_now told) (ready_sound r)

pub returns-in-Halt-clause-done : goal.returns-in-Halt-clause-done
returns-in-Halt-clause-done g c = λ there. ap (done_by c.args.checkpoint c.args.place) (sym c.in-Halt.is ∙ c.in_ok-remedy.ensures.is)

pub returns-in_err-remedy-clause-broken : goal.returns-in_err-remedy-clause-broken
returns-in_err-remedy-clause-broken g c = on_err c.from_residual.result (inl c.in_err-remedy.ensures.kept)

pub returns-in_err-next-in-LeaveOut-clause-broken : goal.returns-in_err-next-in-LeaveOut-clause-broken
returns-in_err-next-in-LeaveOut-clause-broken g c =
    on_err c.from_residual-in_err-next-in-LeaveOut.result (inr (ap (λ (d : Done). d.left) c.in_ok-remedy.ensures.done ∙ ap (λ (r : Remedy). (done_of c.args.tally.now).left ++ left_by r) c.in_ok-remedy.ensures.is))

pub returns-in_err-next-in-LeaveOut-clause-any_moment : goal.returns-in_err-next-in-LeaveOut-clause-any_moment
returns-in_err-next-in-LeaveOut-clause-any_moment g c = λ told rounds next t r.
    let here = left_branch c.args.plan.now.stop_at_faults (done_of c.args.tally.now) c.args.place c.in-LeaveOut.branch (sym c.in_ok-remedy.ensures.is ∙ c.in-LeaveOut.is) in
    c.leave_out.ensures.any_moment told rounds (subst (IsBranchNext rounds c.args.checkpoint) here next) t r

pub returns-in_ok-next-in-LeaveOut-clause-any_moment : goal.returns-in_ok-next-in-LeaveOut-clause-any_moment
returns-in_ok-next-in-LeaveOut-clause-any_moment g c = λ told rounds next t r.
    let here = left_branch c.args.plan.now.stop_at_faults (done_of c.args.tally.now) c.args.place c.in-LeaveOut.branch (sym c.in_ok-remedy.ensures.is ∙ c.in-LeaveOut.is) in
    c.leave_out.ensures.any_moment told rounds (subst (IsBranchNext rounds c.args.checkpoint) here next) t r

pub returns-in_ok-next-in-LeaveOut-clause-ready : goal.returns-in_ok-next-in-LeaveOut-clause-ready
returns-in_ok-next-in-LeaveOut-clause-ready g c = λ told rounds next t r.
    let here = left_branch c.args.plan.now.stop_at_faults (done_of c.args.tally.now) c.args.place c.in-LeaveOut.branch (sym c.in_ok-remedy.ensures.is ∙ c.in-LeaveOut.is) in
    c.in_ok-next-in-LeaveOut.ensures.ready told rounds (subst (IsBranchNext rounds c.args.checkpoint) here next) t r

pub returns-then-ne-clause-crash : goal.returns-then-ne-clause-crash
returns-then-ne-clause-crash g c = λ told rounds t r. unmoved (g.met.S.StateFolder.only_now told) (ready_there (GoesOn c.args.checkpoint) (goes_self c.args.checkpoint) r)

pub returns-in_err-remedy-clause-crash : goal.returns-in_err-remedy-clause-crash
returns-in_err-remedy-clause-crash g c = λ told rounds t r. unmoved (g.met.S.StateFolder.only_now told) (ready_there (GoesOn c.args.checkpoint) (goes_self c.args.checkpoint) r)

pub returns-in-TryAgain-clause-crash : goal.returns-in-TryAgain-clause-crash
returns-in-TryAgain-clause-crash g c = λ told rounds t r. unmoved (g.met.S.StateFolder.only_now told) (ready_there (GoesOn c.args.checkpoint) (goes_self c.args.checkpoint) r)

pub returns-in-Halt-clause-crash : goal.returns-in-Halt-clause-crash
returns-in-Halt-clause-crash g c = λ told rounds t r. unmoved (g.met.S.StateFolder.only_now told) (ready_there (GoesOn c.args.checkpoint) (goes_self c.args.checkpoint) r)

pub returns-in_err-next-in-LeaveOut-clause-stop : goal.returns-in_err-next-in-LeaveOut-clause-stop
returns-in_err-next-in-LeaveOut-clause-stop g c =
    let r = c.from_residual-in_err-next-in-LeaveOut.result in
    let p = err_from_is_err_and r c.from_residual-in_err-next-in-LeaveOut.ensures.1 in
    let why = c.in_err-next-in-LeaveOut.field-0.0 in
    let told = IsTrue g.S.StateFolder.told in
    let here = left_branch c.args.plan.now.stop_at_faults (done_of c.args.tally.now) c.args.place c.in-LeaveOut.branch (sym c.in_ok-remedy.ensures.is ∙ c.in-LeaveOut.is) in
    stops_at told (ForPut (λ (k : Checkpoint). k ≡ with_left (branch_at c.args.place) c.args.checkpoint)) _ _ r why (cc (p.1, p.2))
    (put_wider told _ (g.S.StateFolder.faults c.args.folder.now) _ why (λ it. omega arith) (λ l same. same ∙ ap (λ (b : Place). with_left b c.args.checkpoint) (sym here)) c.in_err-next-in-LeaveOut.ensures.stop)
