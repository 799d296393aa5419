use Rattle.std.proofs.{Common.{refl}, lemmas.Result.{IfOk-weaker}}
use Rattle.ocfl_state.proofs.CheckpointTexts.{parts_of_body, body_of_parts, no_body}
use Rattle.ocfl_state.proofs.checkpoint_decoding.read_body.Goals as goal

pub returns-in-Some-clause-checkpoint : goal.returns-in-Some-clause-checkpoint
returns-in-Some-clause-checkpoint c =
    let parts = c.in-Some.parts in
    IfOk-weaker c.read_parts.result _ _ (λ d h. body_of_parts parts.further parts.path.now parts.standing parts.account parts.rest.now c.args.body.now d c.in-Some.ensures.found h) c.read_parts.ensures.checkpoint

pub returns-in-Some-clause-bad : goal.returns-in-Some-clause-bad
returns-in-Some-clause-bad c = λ e d h.
    let parts = c.in-Some.parts in
    c.read_parts.ensures.bad e d
    (parts_of_body parts.further parts.path.now parts.standing parts.account parts.rest.now c.args.body.now d c.in-Some.ensures.path c.in-Some.ensures.fits.0 c.in-Some.ensures.fits.1 c.in-Some.ensures.found h)

pub returns-in-None-clause-bad : goal.returns-in-None-clause-bad
returns-in-None-clause-bad c = λ _. no_body c.args.body.now (c.in-None.ensures.missing refl)
