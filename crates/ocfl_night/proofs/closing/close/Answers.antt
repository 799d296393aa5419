use Rattle.std.proofs.{Common.{⊎_elim, ◌≡◌, ◌∙◌, ap, arith, length, subst, sym}, lemmas.Result.{err_from_is_err_and}}
use Rattle.std.specs.Prelude.{IsTrue}
use Rattle.ocfl_night.specs.Stopping.{ForClose}
use Rattle.ocfl_night.proofs.Reasons.{put_by, stops_at, too_long}
use Rattle.ocfl_state.specs.{Checkpoint.{Checkpoint}, Content.{Content}}
use Rattle.ocfl_night.specs.Steps.{IsCheckpointPut}
use Rattle.ocfl_night.proofs.Moments.{leaves, unmoved}
use Rattle.ocfl_night.proofs.Sound.{mark_after, next_stands, one_more, put_ready, ready_sound}
use Rattle.ocfl_night.proofs.Compared.{is_moved, move_sound, ready_to_close}
use Rattle.ocfl_night.specs.Again.{GoesOn}
use Rattle.ocfl_night.proofs.Again.{both_there, goes_anew, goes_self, keeps_there, ready_there}
use Rattle.ocfl_night.proofs.closing.close.Goals as goal

pub returns-in_err-move_as-clause-any_moment : goal.returns-in_err-move_as-clause-any_moment
returns-in_err-move_as-clause-any_moment g c = λ told rounds t r.
    let all = c.is_all_said.ensures.0 c.if-not-is_all_said.false in
    leaves (g.met.S.StateFolder.only_now told) (ready_sound r) (move_sound c.requires all r) (c.move_as.ensures.crash told (ready_to_close c.requires r))

pub returns-in_err-put_checkpoint-clause-any_moment : goal.returns-in_err-put_checkpoint-clause-any_moment
returns-in_err-put_checkpoint-clause-any_moment g c = λ told rounds t r.
    let all = c.is_all_said.ensures.0 c.if-not-is_all_said.false in
    mark_after (g.met.S.StateFolder.only_now told) (ready_sound r) (move_sound c.requires all r) (c.move_as.ensures.crash told (ready_to_close c.requires r)) (c.in_ok-move_as.ensures.durable told r.only)
    (next_stands c.begun_anew-next.ensures (is_moved c.requires all r (c.in_ok-move_as.ensures.moved told))) (c.put_checkpoint.ensures.crash told)

pub returns-clause-any_moment : goal.returns-clause-any_moment
returns-clause-any_moment g c = λ told rounds t r.
    let all = c.is_all_said.ensures.0 c.if-not-is_all_said.false in
    mark_after (g.met.S.StateFolder.only_now told) (ready_sound r) (move_sound c.requires all r) (c.move_as.ensures.crash told (ready_to_close c.requires r)) (c.in_ok-move_as.ensures.durable told r.only)
    (next_stands c.begun_anew-next.ensures (is_moved c.requires all r (c.in_ok-move_as.ensures.moved told))) (c.put_checkpoint.ensures.crash told)

pub returns-clause-ready : goal.returns-clause-ready
returns-clause-ready g c = λ told rounds t r.
    let is = c.begun_anew-next.ensures in
    let moved = is_moved c.requires (c.is_all_said.ensures.0 c.if-not-is_all_said.false) r (c.in_ok-move_as.ensures.moved told) in
    put_ready (c.in_ok-put_checkpoint.ensures.put told) (next_stands is moved) (λ phase. ap length moved.empty ∙ sym (ap (λ (x : Checkpoint). x.report.bytes) is)) (c.in_ok-put_checkpoint.ensures.durable told (c.in_ok-move_as.ensures.durable told r.only))

pub returns-clause-closed : goal.returns-clause-closed
returns-clause-closed g c = λ told rounds t r.
    let moved = is_moved c.requires (c.is_all_said.ensures.0 c.if-not-is_all_said.false) r (c.in_ok-move_as.ensures.moved told) in
    one_more r.at c.requires (c.in_ok-move_as.ensures.moved told (ready_to_close c.requires r)) moved (c.in_ok-put_checkpoint.ensures.put told)

pub returns-clause-finished : goal.returns-clause-finished
returns-clause-finished g c = λ told.
    let s = g.S.StateFolder.seen in
    record {
      between = s c.move_as.new.folder;
      closed = c.in_ok-move_as.ensures.closed told;
      next = subst (λ (k : Checkpoint). IsCheckpointPut k (s c.move_as.new.folder) (s c.put_checkpoint.new.folder)) c.begun_anew-next.ensures (c.in_ok-put_checkpoint.ensures.put told);
    }

pub returns-then-not-is_all_said-clause-crash : goal.returns-then-not-is_all_said-clause-crash
returns-then-not-is_all_said-clause-crash g c = λ told rounds t r. unmoved (g.met.S.StateFolder.only_now told) (ready_there (GoesOn c.args.checkpoint) (goes_self c.args.checkpoint) r)

pub returns-in_err-move_as-clause-crash : goal.returns-in_err-move_as-clause-crash
returns-in_err-move_as-clause-crash g c = λ told rounds t r.
    let k = c.args.checkpoint in
    keeps_there (g.met.S.StateFolder.only_now told) (GoesOn k) (ready_there (GoesOn k) (goes_self k) r) (λ d e either. ⊎_elim (λ same. ap (λ (x : Content). x.checkpoint) same) (λ moved. ap (λ (x : Content). x.checkpoint) moved.1) either) (c.move_as.ensures.crash told (ready_to_close c.requires r))

pub returns-in_err-put_checkpoint-clause-crash : goal.returns-in_err-put_checkpoint-clause-crash
returns-in_err-put_checkpoint-clause-crash g c = λ told rounds t r.
    let k = c.args.checkpoint in
    both_there (g.met.S.StateFolder.only_now told) (GoesOn k) (ready_there (GoesOn k) (goes_self k) r) (λ d e either. ⊎_elim (λ same. ap (λ (x : Content). x.checkpoint) same) (λ moved. ap (λ (x : Content). x.checkpoint) moved.1) either) (c.move_as.ensures.crash told (ready_to_close c.requires r)) (goes_anew c.requires r.stands c.begun_anew-next.ensures) (c.put_checkpoint.ensures.crash told)

pub returns-clause-crash : goal.returns-clause-crash
returns-clause-crash g c = λ told rounds t r.
    let k = c.args.checkpoint in
    both_there (g.met.S.StateFolder.only_now told) (GoesOn k) (ready_there (GoesOn k) (goes_self k) r) (λ d e either. ⊎_elim (λ same. ap (λ (x : Content). x.checkpoint) same) (λ moved. ap (λ (x : Content). x.checkpoint) moved.1) either) (c.move_as.ensures.crash told (ready_to_close c.requires r)) (goes_anew c.requires r.stands c.begun_anew-next.ensures) (c.put_checkpoint.ensures.crash told)

pub returns-in_err-put_checkpoint-clause-stop : goal.returns-in_err-put_checkpoint-clause-stop
returns-in_err-put_checkpoint-clause-stop g c =
    let r = c.from_residual-in_err-put_checkpoint.result in
    let p = err_from_is_err_and r c.from_residual-in_err-put_checkpoint.ensures.1 in
    let why = c.in_err-put_checkpoint.field-0.0 in
    let told = IsTrue g.S.StateFolder.told in
    let is = c.begun_anew-next.ensures in
    stops_at told (ForClose c.args.checkpoint) _ _ r why (cc (p.1, p.2))
    (put_by told (ForClose c.args.checkpoint) c.begun_anew-next.result _ (g.S.StateFolder.faults c.move_as.new.folder) _ why c.in_ok-move_as.ensures.stop
    (λ over. let none : c.begun_anew-next.result.said ≡ 0 = ap (λ (x : Checkpoint). x.said) is in omega (arith, over))
    (λ text long. too_long (λ l same. same ∙ is) long) c.in_err-put_checkpoint.ensures.stop)
