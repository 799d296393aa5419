use Rattle.std.proofs.Common.{refl, sym, codes, ◌∙◌}
use Rattle.ocfl_state.proofs.CheckpointFields.{field_determines}
use Rattle.ocfl_state.proofs.CheckpointTexts.{after_first_line, standing_determines}
use Rattle.ocfl_state.proofs.checkpoint_account.split_body.Goals as goal

pub returns-in_err-further-clause-missing : goal.returns-in_err-further-clause-missing
returns-in_err-further-clause-missing c = λ e g p s a rest op hs ha f. c.in_err-further.ensures.missing refl g _ f

pub returns-in_err-path-clause-missing : goal.returns-in_err-path-clause-missing
returns-in_err-path-clause-missing c = λ e g p s a rest op hs ha f.
    c.in_err-path.ensures.missing refl p _ (after_first_line c.in_ok-further.further g p s a rest c.args.body.now c.in_ok-further.lines.now c.in_ok-further.ensures.found f)

pub returns-in_err-standing-clause-missing : goal.returns-in_err-standing-clause-missing
returns-in_err-standing-clause-missing c = λ e g p s a rest op hs ha f.
    let lines = after_first_line c.in_ok-further.further g p s a rest c.args.body.now c.in_ok-further.lines.now c.in_ok-further.ensures.found f in
    let first = field_determines (codes "root ") c.in_ok-path.path.now p c.in_ok-path.rest.now _ c.in_ok-path.ensures.first op (sym c.in_ok-path.ensures.found ∙ lines) in
    c.in_err-standing.ensures.missing refl s _ hs first.1

pub returns-in_err-account-clause-missing : goal.returns-in_err-account-clause-missing
returns-in_err-account-clause-missing c = λ e g p s a rest op hs ha f.
    let lines = after_first_line c.in_ok-further.further g p s a rest c.args.body.now c.in_ok-further.lines.now c.in_ok-further.ensures.found f in
    let first = field_determines (codes "root ") c.in_ok-path.path.now p c.in_ok-path.rest.now _ c.in_ok-path.ensures.first op (sym c.in_ok-path.ensures.found ∙ lines) in
    let second = standing_determines c.in_ok-standing.standing s c.in_ok-standing.rest.now _ c.in_ok-standing.ensures.fits hs (sym c.in_ok-standing.ensures.found ∙ first.1) in
    c.in_err-account.ensures.missing refl a rest ha second.1
