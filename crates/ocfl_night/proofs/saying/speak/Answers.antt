use Rattle.std.proofs.{Common.{◌≡◌, ◌∙◌, ℕ, ap, arith, sym}, lemmas.Result.{err_from_is_err_and}}
use Rattle.std.specs.Prelude.{IsTrue}
use Rattle.ocfl_night.specs.Stopping.{ForSpeak}
use Rattle.ocfl_night.proofs.Reasons.{put_by, stops_at, too_long}
use Rattle.ocfl_state.specs.{Checkpoint.{Checkpoint}, Content.{Content}}
use Rattle.ocfl_night.proofs.{Moments.{only_same, unchanged, unmoved}, Sound.{said_by, ready_sound}}
use Rattle.ocfl_night.proofs.Heard.{grows_none, heard_put, put_heard, same_ready, silent}
use Rattle.ocfl_night.specs.Again.{GoesOn}
use Rattle.ocfl_night.proofs.Again.{both_there, goes_self, goes_said, keeps_there, ready_there}
use Rattle.ocfl_night.proofs.saying.speak.Goals as goal

pub returns-in_err-say_rest-clause-heard : goal.returns-in_err-say_rest-clause-heard
returns-in_err-say_rest-clause-heard g c = λ told rounds t r. silent (unchanged (g.met.S.StateFolder.only_now told) (ready_sound r) (c.say_rest.ensures.crash told))

pub returns-in_err-put_checkpoint-clause-heard : goal.returns-in_err-put_checkpoint-clause-heard
returns-in_err-put_checkpoint-clause-heard g c = λ told rounds t r.
    let some : c.args.checkpoint.said ≡ c.args.checkpoint.report.bytes → ⊥ = λ is. absurd (cc (is, c.is_all_said.ensures.1 is, c.if-is_all_said.false)) in
    heard_put r (c.in_ok-say_rest.ensures.said told) (c.say_rest.ensures.crash told) (c.say_rest.ensures.seen told) (said_by c.with_all_said-next.ensures some r) (g.met.S.StateFolder.only_now told) (c.put_checkpoint.ensures.crash told)

pub returns-clause-heard : goal.returns-clause-heard
returns-clause-heard g c = λ told rounds t r.
    let some : c.args.checkpoint.said ≡ c.args.checkpoint.report.bytes → ⊥ = λ is. absurd (cc (is, c.is_all_said.ensures.1 is, c.if-is_all_said.false)) in
    heard_put r (c.in_ok-say_rest.ensures.said told) (c.say_rest.ensures.crash told) (c.say_rest.ensures.seen told) (said_by c.with_all_said-next.ensures some r) (g.met.S.StateFolder.only_now told) (c.put_checkpoint.ensures.crash told)

pub returns-clause-ready : goal.returns-clause-ready
returns-clause-ready g c = λ told rounds t r.
    let some : c.args.checkpoint.said ≡ c.args.checkpoint.report.bytes → ⊥ = λ is. absurd (cc (is, c.is_all_said.ensures.1 is, c.if-is_all_said.false)) in
    let is = c.with_all_said-next.ensures in
    put_heard r (c.in_ok-say_rest.ensures.said told) (c.say_rest.ensures.crash told) (c.say_rest.ensures.seen told) (said_by is some r) (c.in_ok-put_checkpoint.ensures.put told)
    (ap (λ (x : Checkpoint). x.report.bytes) is) (ap (λ (x : Checkpoint). x.phase) is)
    (c.in_ok-put_checkpoint.ensures.durable told (only_same g.S.StateFolder.seen (c.say_rest.ensures.crash told) (c.say_rest.ensures.seen told) r.only))

pub returns-then-is_all_said-clause-heard : goal.returns-then-is_all_said-clause-heard
returns-then-is_all_said-clause-heard g c = λ told rounds t r. silent (unmoved (g.met.S.StateFolder.only_now told) (ready_sound r))

pub returns-then-is_all_said-clause-ready : goal.returns-then-is_all_said-clause-ready
returns-then-is_all_said-clause-ready g c = λ told rounds t r. same_ready r

pub returns-then-is_all_said-clause-all : goal.returns-then-is_all_said-clause-all
returns-then-is_all_said-clause-all g c =
    let k = c.args.checkpoint in
    ap (λ (n : ℕ). record k { said = n }) (c.is_all_said.ensures.0 c.if-is_all_said.true)

pub returns-then-not-tells_within-clause-heard : goal.returns-then-not-tells_within-clause-heard
returns-then-not-tells_within-clause-heard g c = λ told rounds t r. silent (unmoved (g.met.S.StateFolder.only_now told) (ready_sound r))

pub returns-then-is_all_said-clause-grew : goal.returns-then-is_all_said-clause-grew
returns-then-is_all_said-clause-grew g c = grows_none _

pub returns-then-not-tells_within-clause-grew : goal.returns-then-not-tells_within-clause-grew
returns-then-not-tells_within-clause-grew g c = grows_none _

pub returns-then-is_all_said-clause-crash : goal.returns-then-is_all_said-clause-crash
returns-then-is_all_said-clause-crash g c = λ told rounds t r. unmoved (g.met.S.StateFolder.only_now told) (ready_there (GoesOn c.args.checkpoint) (goes_self c.args.checkpoint) r)

pub returns-then-not-tells_within-clause-crash : goal.returns-then-not-tells_within-clause-crash
returns-then-not-tells_within-clause-crash g c = λ told rounds t r. unmoved (g.met.S.StateFolder.only_now told) (ready_there (GoesOn c.args.checkpoint) (goes_self c.args.checkpoint) r)

pub returns-in_err-say_rest-clause-crash : goal.returns-in_err-say_rest-clause-crash
returns-in_err-say_rest-clause-crash g c = λ told rounds t r.
    let k = c.args.checkpoint in
    keeps_there (g.met.S.StateFolder.only_now told) (GoesOn k) (ready_there (GoesOn k) (goes_self k) r) (λ d e same. ap (λ (x : Content). x.checkpoint) same) (c.say_rest.ensures.crash told)

pub returns-in_err-put_checkpoint-clause-crash : goal.returns-in_err-put_checkpoint-clause-crash
returns-in_err-put_checkpoint-clause-crash g c = λ told rounds t r.
    let k = c.args.checkpoint in
    both_there (g.met.S.StateFolder.only_now told) (GoesOn k) (ready_there (GoesOn k) (goes_self k) r) (λ d e same. ap (λ (x : Content). x.checkpoint) same) (c.say_rest.ensures.crash told) (goes_said k c.with_all_said-next.ensures) (c.put_checkpoint.ensures.crash told)

pub returns-clause-crash : goal.returns-clause-crash
returns-clause-crash g c = λ told rounds t r.
    let k = c.args.checkpoint in
    both_there (g.met.S.StateFolder.only_now told) (GoesOn k) (ready_there (GoesOn k) (goes_self k) r) (λ d e same. ap (λ (x : Content). x.checkpoint) same) (c.say_rest.ensures.crash told) (goes_said k c.with_all_said-next.ensures) (c.put_checkpoint.ensures.crash told)

pub returns-in_err-put_checkpoint-clause-stop : goal.returns-in_err-put_checkpoint-clause-stop
returns-in_err-put_checkpoint-clause-stop g c =
    let r = c.from_residual-in_err-put_checkpoint.result in
    let p = err_from_is_err_and r c.from_residual-in_err-put_checkpoint.ensures.1 in
    let why = c.in_err-put_checkpoint.field-0.0 in
    let told = IsTrue g.S.StateFolder.told in
    let is = c.with_all_said-next.ensures in
    let here = ForSpeak c.args.checkpoint (g.S.StateFolder.seen c.args.folder.now) (g.O.Output.said c.args.out.now) (g.O.Output.said c.say_rest.new.out) in
    stops_at told here _ _ r why (cc (p.1, p.2))
    (put_by told here c.with_all_said-next.result _ (g.S.StateFolder.faults c.say_rest.new.folder) _ why c.in_ok-say_rest.ensures.stop
    (λ over. let all : c.with_all_said-next.result.said ≡ c.with_all_said-next.result.report.bytes = ap (λ (x : Checkpoint). x.said) is ∙ sym (ap (λ (x : Checkpoint). x.report.bytes) is) in absurd (omega (arith, over)))
    (λ text long. too_long (λ l same. same ∙ is) long) c.in_err-put_checkpoint.ensures.stop)
