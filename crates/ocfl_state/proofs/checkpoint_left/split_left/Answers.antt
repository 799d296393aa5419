use Rattle.std.proofs.Common.{refl, sym, codes, [], ◌∙◌}
use Rattle.ocfl_state.specs.CheckpointLines.{field_line}
use Rattle.ocfl_state.proofs.CheckpointFields.{field_determines}
use Rattle.ocfl_state.proofs.checkpoint_left.split_left.Goals as goal

pub returns-in_err-path-clause-missing : goal.returns-in_err-path-clause-missing
returns-in_err-path-clause-missing c = λ e p s r one f. c.in_err-path.ensures.missing refl p (field_line [] s r) f

pub returns-in_err-stood-clause-missing : goal.returns-in_err-stood-clause-missing
returns-in_err-stood-clause-missing c = λ e p s r one f.
    let first = field_determines (codes "left ") c.in_ok-path.path.now p c.in_ok-path.line.now (field_line [] s r) c.in_ok-path.ensures.first one (sym c.in_ok-path.ensures.found ∙ f) in
    c.in_err-stood.ensures.missing refl s r first.1
