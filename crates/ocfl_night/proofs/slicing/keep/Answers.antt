use Rattle.std.proofs.Common.{◌≡◌, ◌⊎◌, ◌∙◌, ap, inl, inr, refl}
use Rattle.std.proofs.lemmas.Result.{err_from_is_err_and}
use Rattle.std.specs.Prelude.{IsTrue}
use Rattle.ocfl_state.specs.{Checkpoint.{Checkpoint}, Content.{Content}}
use Rattle.ocfl_night.specs.Stopping.{ForKeep}
use Rattle.ocfl_night.proofs.Moments.{leaves, torn_less}
use Rattle.ocfl_night.proofs.Sound.{mark_after, ready_sound, run_sound, after_extended, put_ready}
use Rattle.ocfl_night.proofs.Reasons.{keep_over, keep_reason, stops_at}
use Rattle.ocfl_night.specs.Ending.{IsNextBy}
use Rattle.ocfl_night.proofs.Again.{both_there, keeps_there, ready_there}
use Rattle.ocfl_night.proofs.slicing.keep.Goals as goal

pub returns-in_err-report-clause-any_moment : goal.returns-in_err-report-clause-any_moment
returns-in_err-report-clause-any_moment g c = λ told rounds look one run t r. leaves (g.met.S.StateFolder.only_now told) (ready_sound r) (run_sound c.requires r) (torn_less (c.extend.ensures.crash told))

pub returns-in_err-put_checkpoint-clause-any_moment : goal.returns-in_err-put_checkpoint-clause-any_moment
returns-in_err-put_checkpoint-clause-any_moment g c = λ told rounds look one run t r.
    let after = after_extended c.requires r one run (c.in_ok-report.ensures.grown told) c.report_of-mark.ensures (c.in_ok-report.ensures.mark told) c.after_run-made.ensures.next in
    mark_after (g.met.S.StateFolder.only_now told) (ready_sound r) (run_sound c.requires r) (torn_less (c.extend.ensures.crash told)) (c.in_ok-report.ensures.only told) after.stands (c.put_checkpoint.ensures.crash told)

pub returns-clause-any_moment : goal.returns-clause-any_moment
returns-clause-any_moment g c = λ told rounds look one run t r.
    let after = after_extended c.requires r one run (c.in_ok-report.ensures.grown told) c.report_of-mark.ensures (c.in_ok-report.ensures.mark told) c.after_run-made.ensures.next in
    mark_after (g.met.S.StateFolder.only_now told) (ready_sound r) (run_sound c.requires r) (torn_less (c.extend.ensures.crash told)) (c.in_ok-report.ensures.only told) after.stands (c.put_checkpoint.ensures.crash told)

pub returns-clause-ready : goal.returns-clause-ready
returns-clause-ready g c = λ told rounds look one run t r.
    let after = after_extended c.requires r one run (c.in_ok-report.ensures.grown told) c.report_of-mark.ensures (c.in_ok-report.ensures.mark told) c.after_run-made.ensures.next in
    put_ready (c.in_ok-put_checkpoint.ensures.put told) after.stands after.exact (c.in_ok-put_checkpoint.ensures.durable told (c.in_ok-report.ensures.only told))

pub returns-clause-closed : goal.returns-clause-closed
returns-clause-closed g c = λ told.
    ap (λ (x : Content). x.closed) (c.in_ok-put_checkpoint.ensures.put told).put ∙ ap (λ (x : Content). x.closed) (c.in_ok-report.ensures.grown told)

pub returns-in_err-put_checkpoint-clause-stop : goal.returns-in_err-put_checkpoint-clause-stop
returns-in_err-put_checkpoint-clause-stop g c =
    let r = c.from_residual-in_err-put_checkpoint.result in
    let p = err_from_is_err_and r c.from_residual-in_err-put_checkpoint.ensures.1 in
    let why = c.in_err-put_checkpoint.field-0.0 in
    let over = λ (told : IsTrue g.S.StateFolder.told). keep_over c.args.checkpoint c.after_run-made.result.checkpoint c.args.ran c.report_of-mark.result c.in_ok-report.report (g.S.StateFolder.seen c.args.folder.now) (g.S.StateFolder.seen c.extend.new.folder) c.args.lines.now c.after_run-made.ensures.next c.report_of-mark.ensures (c.in_ok-report.ensures.grown told) (c.in_ok-report.ensures.mark told) in
    let next = IsNextBy c.args.checkpoint c.args.ran in
    stops_at (IsTrue g.S.StateFolder.told) (ForKeep next c.args.checkpoint (g.S.StateFolder.seen c.args.folder.now)) _ _ r why (cc (p.1, p.2))
    (keep_reason (IsTrue g.S.StateFolder.told) next c.args.checkpoint c.after_run-made.result.checkpoint (g.S.StateFolder.seen c.args.folder.now) _ (g.S.StateFolder.faults c.extend.new.folder) _ why (_, c.after_run-made.ensures.next) c.in_ok-report.ensures.stop over c.in_err-put_checkpoint.ensures.stop)

pub returns-in_err-report-clause-crash : goal.returns-in_err-report-clause-crash
returns-in_err-report-clause-crash g c = λ told rounds t r.
    let left = λ (k : Checkpoint). (k ≡ c.args.checkpoint) ⊎ IsNextBy c.args.checkpoint c.args.ran k in
    keeps_there (g.met.S.StateFolder.only_now told) left (ready_there left (inl refl) r) (λ d e torn. torn.checkpoint) (c.extend.ensures.crash told)

pub returns-in_err-put_checkpoint-clause-crash : goal.returns-in_err-put_checkpoint-clause-crash
returns-in_err-put_checkpoint-clause-crash g c = λ told rounds t r.
    let left = λ (k : Checkpoint). (k ≡ c.args.checkpoint) ⊎ IsNextBy c.args.checkpoint c.args.ran k in
    both_there (g.met.S.StateFolder.only_now told) left (ready_there left (inl refl) r) (λ d e torn. torn.checkpoint) (c.extend.ensures.crash told) (inr (_, c.after_run-made.ensures.next)) (c.put_checkpoint.ensures.crash told)

pub returns-clause-crash : goal.returns-clause-crash
returns-clause-crash g c = λ told rounds t r.
    let left = λ (k : Checkpoint). (k ≡ c.args.checkpoint) ⊎ IsNextBy c.args.checkpoint c.args.ran k in
    both_there (g.met.S.StateFolder.only_now told) left (ready_there left (inl refl) r) (λ d e torn. torn.checkpoint) (c.extend.ensures.crash told) (inr (_, c.after_run-made.ensures.next)) (c.put_checkpoint.ensures.crash told)
