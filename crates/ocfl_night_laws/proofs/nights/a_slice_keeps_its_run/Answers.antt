use Rattle.std.proofs.Common.{◌≡◌, inl, inr, subst}
use Rattle.ocfl_cursor.specs.declared.limits.Limits.{Limits}
use Rattle.ocfl_state.specs.Checkpoint.{Checkpoint}
use Rattle.ocfl_night.specs.Ending.{IsAway, IsRunKept, IsSlice}
use Rattle.ocfl_terms.specs.{declared.made.Made.{Made}, declared.made.SliceEnd.{SliceEnd}}
use Rattle.ocfl_night_laws.proofs.nights.a_slice_keeps_its_run.Goals as goal

-- after another end than these the root was that of before
keeps : (k : Checkpoint) (limits : Limits) (made : Made) (end : SliceEnd) → (IsAway end → ⊥) → IsSlice k limits made → made.end ≡ end → IsRunKept k limits made
keeps k limits made end stays (inl u) e = absurd (stays (subst IsAway e u.away))
keeps k limits made end stays (inr r) e = r

pub returns-clause-ended : goal.returns-clause-ended
returns-clause-ended c k limits made is e = keeps k limits made _ (λ away. away) is e

pub returns-clause-spent : goal.returns-clause-spent
returns-clause-spent c k limits made is e = keeps k limits made _ (λ away. away) is e

pub returns-clause-stopped : goal.returns-clause-stopped
returns-clause-stopped c k limits made why is e = keeps k limits made _ (λ away. away) is e
