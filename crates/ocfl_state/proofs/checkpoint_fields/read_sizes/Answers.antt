use Rattle.std.proofs.Common.{◌≢◌, All, refl, sym, subst, decimal, ◌∙◌}
use Rattle.ocfl_report.proofs.Separators.{first_parts, separator_is_there}
use Rattle.ocfl_state.proofs.CheckpointFields.{count_no_space}
use Rattle.ocfl_state.proofs.checkpoint_fields.read_sizes.Goals as goal

pub returns-in_err-front-clause-missing : goal.returns-in_err-front-clause-missing
returns-in_err-front-clause-missing c = λ e m n h k f.
    separator_is_there 32 (decimal m) (decimal n) (subst (All (λ b. b ≢ 32)) f (c.in_err-front.ensures.missing refl))

pub returns-in_err-bytes-clause-missing : goal.returns-in_err-bytes-clause-missing
returns-in_err-bytes-clause-missing c = λ e m n h k f.
    let parts = first_parts 32 c.in_ok-front.front.now (decimal m) c.in_ok-front.back.now (decimal n) c.in_ok-front.ensures.first (count_no_space m h) (sym c.in_ok-front.ensures.found ∙ f) in
    c.in_err-bytes.ensures.missing refl m h parts.0

pub returns-in_err-lines-clause-missing : goal.returns-in_err-lines-clause-missing
returns-in_err-lines-clause-missing c = λ e m n h k f.
    let parts = first_parts 32 c.in_ok-front.front.now (decimal m) c.in_ok-front.back.now (decimal n) c.in_ok-front.ensures.first (count_no_space m h) (sym c.in_ok-front.ensures.found ∙ f) in
    c.in_err-lines.ensures.missing refl n k parts.1
