use Rattle.std.proofs.Common.{◌≢◌, All, refl, sym, subst, decimal, ◌∙◌}
use Rattle.hex.specs.Hex.{encode_lower}
use Rattle.ocfl_report.proofs.Separators.{first_parts, separator_is_there}
use Rattle.ocfl_state.proofs.CheckpointFields.{count_no_space}
use Rattle.ocfl_state.proofs.checkpoint_fields.read_names.Goals as goal

pub returns-in_err-digits-clause-missing : goal.returns-in_err-digits-clause-missing
returns-in_err-digits-clause-missing c = λ e n h f.
    separator_is_there 32 (decimal n.count) (encode_lower n.digest) (subst (All (λ b. b ≢ 32)) f (c.in_err-digits.ensures.missing refl))

pub returns-in_err-count-clause-missing : goal.returns-in_err-count-clause-missing
returns-in_err-count-clause-missing c = λ e n h f.
    let parts = first_parts 32 c.in_ok-digits.digits.now (decimal n.count) c.in_ok-digits.hex_digits.now (encode_lower n.digest) c.in_ok-digits.ensures.first (count_no_space n.count h.count) (sym c.in_ok-digits.ensures.found ∙ f) in
    c.in_err-count.ensures.missing refl n.count h.count parts.0

pub returns-in_err-digest-clause-missing : goal.returns-in_err-digest-clause-missing
returns-in_err-digest-clause-missing c = λ e n h f.
    let parts = first_parts 32 c.in_ok-digits.digits.now (decimal n.count) c.in_ok-digits.hex_digits.now (encode_lower n.digest) c.in_ok-digits.ensures.first (count_no_space n.count h.count) (sym c.in_ok-digits.ensures.found ∙ f) in
    c.in_err-digest.ensures.missing refl n.digest h.digest parts.1
