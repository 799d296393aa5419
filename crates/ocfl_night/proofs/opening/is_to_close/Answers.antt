use Rattle.std.proofs.Common.{◌∙◌, ap}
use Rattle.ocfl_state.specs.Content.{is_closed}
use Rattle.ocfl_night.proofs.{Lost.{not_answer}, Moments.{only_same, unchanged}}
use Rattle.ocfl_night.proofs.{Sound.{settled_sound}, TakingUp.{settled_on}}
use Rattle.ocfl_night.proofs.opening.is_to_close.Goals as goal

pub returns-in_err-has_closed-clause-any_moment : goal.returns-in_err-has_closed-clause-any_moment
returns-in_err-has_closed-clause-any_moment g c = λ told rounds t r. unchanged (g.met.S.StateFolder.only_now told) (settled_sound r) (c.has_closed.ensures.crash told)

pub returns-clause-any_moment : goal.returns-clause-any_moment
returns-clause-any_moment g c = λ told rounds t r. unchanged (g.met.S.StateFolder.only_now told) (settled_sound r) (c.has_closed.ensures.crash told)

pub returns-clause-ready : goal.returns-clause-ready
returns-clause-ready g c = λ told is rounds t r.
    let same = c.has_closed.ensures.seen told in
    settled_on is r same (only_same g.S.StateFolder.seen (c.has_closed.ensures.crash told) same r.only)

pub returns-clause-value : goal.returns-clause-value
returns-clause-value g c = λ told.
    let shut = (g.S.StateFolder.seen c.args.folder.now).closed in
    not_answer c.in_ok-has_closed.field-0 (is_closed shut c.args.checkpoint.now.cursor.cycle) (c.in_ok-has_closed.ensures.value told ∙ ap (is_closed shut) c.cycle_of.ensures)
