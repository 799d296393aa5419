use Rattle.std.proofs.Common.{◌∙◌, ℕ, ap, arith, refl, sym, take}
use Rattle.std.proofs.lemmas.Result.{IfOk-weaker}
use Rattle.ocfl_state.specs.Content.{with_report}
use Rattle.ocfl_night.proofs.{Lost.{on_ok_always, settled_closing, settled_open}, Moments.{leaves}}
use Rattle.ocfl_night.proofs.{Sound.{settled_sound, torn_sound}, TakingUp.{cut_ready}}
use Rattle.ocfl_night.proofs.opening.settle.Goals as goal

pub returns-in_err-trim-in-Open-clause-any_moment : goal.returns-in_err-trim-in-Open-clause-any_moment
returns-in_err-trim-in-Open-clause-any_moment g c = λ told rounds t r.
    leaves (g.met.S.StateFolder.only_now told) (settled_sound r) (torn_sound (sym c.phase_of.ensures ∙ c.in-Open.is) (omega arith) r) (c.trim.ensures.crash told)

pub returns-in_ok-trim-in-Open-clause-any_moment : goal.returns-in_ok-trim-in-Open-clause-any_moment
returns-in_ok-trim-in-Open-clause-any_moment g c = λ told rounds t r.
    leaves (g.met.S.StateFolder.only_now told) (settled_sound r) (torn_sound (sym c.phase_of.ensures ∙ c.in-Open.is) (omega arith) r) (c.trim.ensures.crash told)

pub returns-in_ok-trim-in-Open-clause-ready : goal.returns-in_ok-trim-in-Open-clause-ready
returns-in_ok-trim-in-Open-clause-ready g c = λ told rounds t r.
    let s = g.S.StateFolder.seen in
    let f = c.args.folder.now in
    let cut = c.in_ok-trim-in-Open.ensures.cut told ∙ ap (λ (n : ℕ). with_report (take n (s f).report) (s f)) c.bytes_of.ensures in
    cut_ready (sym c.phase_of.ensures ∙ c.in-Open.is) r cut (c.in_ok-trim-in-Open.ensures.only told)

pub returns-in_ok-trim-in-Open-clause-there : goal.returns-in_ok-trim-in-Open-clause-there
returns-in_ok-trim-in-Open-clause-there g c = λ told.
    let phase = sym c.phase_of.ensures ∙ c.in-Open.is in
    ((λ it is. absurd (cc (phase, is))), (λ fits. refl))

pub returns-in_ok-trim-in-Open-clause-settled : goal.returns-in_ok-trim-in-Open-clause-settled
returns-in_ok-trim-in-Open-clause-settled g c = λ told.
    let s = g.S.StateFolder.seen in
    let f = c.args.folder.now in
    let cut = c.in_ok-trim-in-Open.ensures.cut told ∙ ap (λ (n : ℕ). with_report (take n (s f).report) (s f)) c.bytes_of.ensures in
    settled_open c.args.checkpoint.now (s f) (sym c.phase_of.ensures ∙ c.in-Open.is) cut

pub returns-in-Closing-clause-ready : goal.returns-in-Closing-clause-ready
returns-in-Closing-clause-ready g c = λ told rounds t r. c.is_to_close.ensures.ready told (sym c.phase_of.ensures ∙ c.in-Closing.is) rounds t r

pub returns-in-Closing-clause-there : goal.returns-in-Closing-clause-there
returns-in-Closing-clause-there g c = λ told.
    IfOk-weaker c.is_to_close.result _ _
    (λ there fits. ((λ it is. fits.0 it), (λ open_still. fits.1 (open_still (sym c.phase_of.ensures ∙ c.in-Closing.is)))))
    (c.is_to_close.ensures.value told)

pub returns-in-Closing-clause-settled : goal.returns-in-Closing-clause-settled
returns-in-Closing-clause-settled g c = λ told.
    let same = c.is_to_close.ensures.seen told in
    on_ok_always c.is_to_close.result (settled_closing c.args.checkpoint.now (g.S.StateFolder.seen c.args.folder.now) (sym c.phase_of.ensures ∙ c.in-Closing.is) same)
