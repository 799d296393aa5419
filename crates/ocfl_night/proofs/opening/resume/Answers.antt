use Rattle.std.proofs.Common.{◌∙◌, ap}
use Rattle.ocfl_state.specs.{Checkpoint.{Checkpoint}, Content.{Content}}
use Rattle.std.proofs.lemmas.Result.{err_from_is_err_and}
use Rattle.std.specs.Prelude.{IsTrue}
use Rattle.ocfl_night.specs.{Site.{with_root}, Steps.{IsTakenUp}, Stopping.{ForPut}}
use Rattle.ocfl_night.proofs.{Lost.{fitted_as, lost_as}, Moments.{joined_moments}, Reasons.{put_wider, stops_at}, Sound.{put_moments, put_on, renamed}, TakingUp.{taken_as}}
use Rattle.ocfl_night.proofs.opening.resume.Goals as goal

pub returns-in_err-put_checkpoint-clause-any_moment : goal.returns-in_err-put_checkpoint-clause-any_moment
returns-in_err-put_checkpoint-clause-any_moment g c = λ told rounds t r.
    let ready = taken_as c.fitted-opened.ensures.checkpoint (c.in_ok-there.ensures.ready told rounds t r) in
    joined_moments (c.take_up.ensures.any_moment told rounds t r) (put_moments {S = g.S.StateFolder} (g.met.S.StateFolder.only_now told) ready (renamed c.with_root-next.ensures ready.stands) (c.put_checkpoint.ensures.crash told))

pub returns-clause-any_moment : goal.returns-clause-any_moment
returns-clause-any_moment g c = λ told rounds t r.
    let ready = taken_as c.fitted-opened.ensures.checkpoint (c.in_ok-there.ensures.ready told rounds t r) in
    joined_moments (c.take_up.ensures.any_moment told rounds t r) (put_moments {S = g.S.StateFolder} (g.met.S.StateFolder.only_now told) ready (renamed c.with_root-next.ensures ready.stands) (c.put_checkpoint.ensures.crash told))

pub returns-clause-ready : goal.returns-clause-ready
returns-clause-ready g c = λ told rounds t r.
    let is = c.with_root-next.ensures in
    let ready = taken_as c.fitted-opened.ensures.checkpoint (c.in_ok-there.ensures.ready told rounds t r) in
    put_on ready (renamed is ready.stands) (c.in_ok-put_checkpoint.ensures.put told) (ap (λ (x : Checkpoint). x.report.bytes) is) (ap (λ (x : Checkpoint). x.phase) is) (c.in_ok-put_checkpoint.ensures.durable told ready.only)

pub returns-clause-closed : goal.returns-clause-closed
returns-clause-closed g c = λ told. ap (λ (x : Content). x.closed) (c.in_ok-put_checkpoint.ensures.put told).put ∙ c.in_ok-there.ensures.closed told

pub returns-clause-opened : goal.returns-clause-opened
returns-clause-opened g c = λ told.
    let k = c.args.checkpoint in
    let there = c.in_ok-there.there in
    let fits = fitted_as k there (g.S.StateFolder.seen c.args.folder.now) _ c.fitted-opened.ensures.lost (c.in_ok-there.ensures.left told) in
    record {
      lost = lost_as there _ c.fitted-opened.ensures.lost (c.in_ok-there.ensures.lost told);
      checkpoint = c.with_root-next.ensures ∙ ap (with_root c.args.identity.now) (c.fitted-opened.ensures.checkpoint ∙ fits);
    }

pub returns-clause-taken : goal.returns-clause-taken
returns-clause-taken g c = (c.in_ok-there.there, c.with_root-next.ensures ∙ ap (with_root c.args.identity.now) c.fitted-opened.ensures.checkpoint)

pub returns-in_err-put_checkpoint-clause-stop : goal.returns-in_err-put_checkpoint-clause-stop
returns-in_err-put_checkpoint-clause-stop g c =
    let r = c.from_residual-in_err-put_checkpoint.result in
    let p = err_from_is_err_and r c.from_residual-in_err-put_checkpoint.ensures.1 in
    let why = c.in_err-put_checkpoint.field-0.0 in
    let id = c.args.identity.now in
    stops_at (IsTrue g.S.StateFolder.told) (ForPut (IsTakenUp id c.args.checkpoint)) _ _ r why (cc (p.1, p.2))
    (put_wider (IsTrue g.S.StateFolder.told) _ (g.S.StateFolder.faults c.take_up.new.folder) _ why c.in_ok-there.ensures.stop
    (λ l same. (c.in_ok-there.there, same ∙ c.with_root-next.ensures ∙ ap (with_root id) c.fitted-opened.ensures.checkpoint)) c.in_err-put_checkpoint.ensures.stop)
