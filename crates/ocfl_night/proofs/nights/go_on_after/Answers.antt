use Rattle.std.proofs.{Common.{◌≡◌, ◌∙◌, arith, sym}, lemmas.Result.{on_err_weaker}}
use Rattle.std.specs.Prelude.{IsTrue}
use Rattle.ocfl_state.specs.Checkpoint.{Checkpoint}
use Rattle.ocfl_night.specs.{Leaving.{branch_at}, Steps.{with_left}, Stopping.{ForPut, IsPassedBy}}
use Rattle.ocfl_night.proofs.Reasons.{put_wider, stops_over}
use Rattle.ocfl_night.specs.Done.{done_of}
use Rattle.ocfl_night.proofs.{Moments.{unmoved}, Runs.{left_by_place}, Sound.{ready_sound}}
use Rattle.ocfl_night.specs.Again.{GoesOn}
use Rattle.ocfl_night.proofs.Again.{goes_self, ready_there}
use Rattle.ocfl_night.proofs.Asking.{met_stopped}
use Rattle.ocfl_night.proofs.nights.go_on_after.Goals as goal

pub returns-in-Err-clause-any_moment : goal.returns-in-Err-clause-any_moment
returns-in-Err-clause-any_moment g c = λ told rounds next t r. unmoved (g.met.S.StateFolder.only_now told) (ready_sound r)

pub returns-in-Ok-clause-broken : goal.returns-in-Ok-clause-broken
returns-in-Ok-clause-broken g c =
    let d = done_of c.args.tally.now in
    on_err_weaker c.pass_by.result (left_by_place c.args.plan.now.stop_at_faults d (done_of c.pass_by.new.tally) c.args.made (sym c.place_or_pause.ensures ∙ c.in-Ok.is)) c.pass_by.ensures.broken

pub returns-in-Ok-clause-any_moment : goal.returns-in-Ok-clause-any_moment
returns-in-Ok-clause-any_moment g c = λ told rounds next t r. c.pass_by.ensures.any_moment told rounds (next c.in-Ok.place (sym c.place_or_pause.ensures ∙ c.in-Ok.is)) t r

pub returns-in-Ok-clause-ready : goal.returns-in-Ok-clause-ready
returns-in-Ok-clause-ready g c = λ told rounds next t r. c.pass_by.ensures.ready told rounds (next c.in-Ok.place (sym c.place_or_pause.ensures ∙ c.in-Ok.is)) t r

pub returns-in-Err-clause-crash : goal.returns-in-Err-clause-crash
returns-in-Err-clause-crash g c = λ told rounds t r. unmoved (g.met.S.StateFolder.only_now told) (ready_there (GoesOn c.args.made.checkpoint) (goes_self c.args.made.checkpoint) r)

pub returns-in-Ok-clause-met : goal.returns-in-Ok-clause-met
returns-in-Ok-clause-met g c = λ met. met_stopped c.args.made.end c.in-Ok.place c.forget.new.self (sym c.place_or_pause.ensures ∙ c.in-Ok.is) c.forget.ensures

pub returns-in-Ok-clause-stop : goal.returns-in-Ok-clause-stop
returns-in-Ok-clause-stop g c =
    let told = IsTrue g.S.StateFolder.told in
    let next = ForPut (λ (k : Checkpoint). k ≡ with_left (branch_at c.in-Ok.place) c.args.made.checkpoint) in
    stops_over next (ForPut (IsPassedBy c.args.made)) _ (g.S.StateFolder.faults c.args.folder.now) _ c.pass_by.result (λ it. it) (λ (it : told). omega arith)
    (λ why. put_wider told {Two = IsPassedBy c.args.made} _ (g.S.StateFolder.faults c.args.folder.now) _ why (λ it. omega arith) (λ l same. (c.in-Ok.place, (sym c.place_or_pause.ensures ∙ c.in-Ok.is, same)))) c.pass_by.ensures.stop
