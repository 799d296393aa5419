use Rattle.std.proofs.{Common.{◌≡◌, ◌∙◌, ap, arith}, lemmas.Result.{err_from_is_err_and}}
use Rattle.std.specs.Prelude.{IsTrue}
use Rattle.ocfl_night.specs.{Steps.{with_left}, Stopping.{ForPut}}
use Rattle.ocfl_night.proofs.Reasons.{put_wider, stops_at}
use Rattle.ocfl_state.specs.{Checkpoint.{Checkpoint}, Content.{Content}}
use Rattle.ocfl_night.proofs.Moments.{unmoved}
use Rattle.ocfl_night.proofs.Sound.{left_stands, put_moments, put_on, ready_sound}
use Rattle.ocfl_night.specs.Again.{GoesOn}
use Rattle.ocfl_night.proofs.Again.{goes_left, goes_self, puts_there, ready_there}
use Rattle.ocfl_night.proofs.leaving.leave_out.Goals as goal

pub returns-in_err-next-clause-any_moment : goal.returns-in_err-next-clause-any_moment
returns-in_err-next-clause-any_moment g c = λ told rounds none t r. unmoved (g.met.S.StateFolder.only_now told) (ready_sound r)

pub returns-in_err-put_checkpoint-clause-any_moment : goal.returns-in_err-put_checkpoint-clause-any_moment
returns-in_err-put_checkpoint-clause-any_moment g c = λ told rounds none t r.
    put_moments {S = g.S.StateFolder} (g.met.S.StateFolder.only_now told) r (left_stands _ c.in_ok-next.ensures c.requires none r.stands) (c.put_checkpoint.ensures.crash told)

pub returns-clause-any_moment : goal.returns-clause-any_moment
returns-clause-any_moment g c = λ told rounds none t r.
    put_moments {S = g.S.StateFolder} (g.met.S.StateFolder.only_now told) r (left_stands _ c.in_ok-next.ensures c.requires none r.stands) (c.put_checkpoint.ensures.crash told)

pub returns-clause-ready : goal.returns-clause-ready
returns-clause-ready g c = λ told rounds none t r.
    let is = c.in_ok-next.ensures in
    put_on r (left_stands _ is c.requires none r.stands) (c.in_ok-put_checkpoint.ensures.put told) (ap (λ (x : Checkpoint). x.report.bytes) is) (ap (λ (x : Checkpoint). x.phase) is) (c.in_ok-put_checkpoint.ensures.durable told r.only)

pub returns-clause-closed : goal.returns-clause-closed
returns-clause-closed g c = λ told. ap (λ (x : Content). x.closed) (c.in_ok-put_checkpoint.ensures.put told).put

pub returns-in_err-next-clause-crash : goal.returns-in_err-next-clause-crash
returns-in_err-next-clause-crash g c = λ told rounds t r. unmoved (g.met.S.StateFolder.only_now told) (ready_there (GoesOn c.args.checkpoint) (goes_self c.args.checkpoint) r)

pub returns-in_err-put_checkpoint-clause-crash : goal.returns-in_err-put_checkpoint-clause-crash
returns-in_err-put_checkpoint-clause-crash g c = λ told rounds t r.
    let k = c.args.checkpoint in
    puts_there (g.met.S.StateFolder.only_now told) (GoesOn k) (ready_there (GoesOn k) (goes_self k) r) (goes_left _ k c.in_ok-next.ensures) (c.put_checkpoint.ensures.crash told)

pub returns-clause-crash : goal.returns-clause-crash
returns-clause-crash g c = λ told rounds t r.
    let k = c.args.checkpoint in
    puts_there (g.met.S.StateFolder.only_now told) (GoesOn k) (ready_there (GoesOn k) (goes_self k) r) (goes_left _ k c.in_ok-next.ensures) (c.put_checkpoint.ensures.crash told)

pub returns-in_err-put_checkpoint-clause-stop : goal.returns-in_err-put_checkpoint-clause-stop
returns-in_err-put_checkpoint-clause-stop g c =
    let r = c.from_residual-in_err-put_checkpoint.result in
    let p = err_from_is_err_and r c.from_residual-in_err-put_checkpoint.ensures.1 in
    let why = c.in_err-put_checkpoint.field-0.0 in
    let told = IsTrue g.S.StateFolder.told in
    stops_at told (ForPut (λ (k : Checkpoint). k ≡ with_left c.args.branch c.args.checkpoint)) _ _ r why (cc (p.1, p.2))
    (put_wider told _ (g.S.StateFolder.faults c.args.folder.now) _ why (λ it. omega arith) (λ l same. same ∙ c.in_ok-next.ensures) c.in_err-put_checkpoint.ensures.stop)
