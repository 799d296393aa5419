-- Where nights leave the checkpoint, and the next one begins.
use Rattle.std.proofs.Common.{◌≡◌, Result, Ok, Err, ap, refl, subst, sym}
use Rattle.std.specs.Prelude.{IfOk}
use Rattle.ocfl_state.specs.{Checkpoint.{Checkpoint}, Content.{Content}}
use Rattle.ocfl_state.specs.declared.checkpoint_parts.{Phase.{Phase}, Phase.TheVariants.{Open, Closing}}
use Rattle.ocfl_night.specs.Beginning.{StandsAt, goes_on_at, goes_on_in, position}
use Rattle.ocfl_night.specs.{Ending.{IsUnkept}, Sound.{IsAt}, Steps.{IsCheckpointPut, IsFinished, begun_anew}}
use Rattle.ocfl_terms.specs.{declared.made.Made.{Made}, declared.stop.Stop.{Stop}}

pub put_at : (k : Checkpoint) (old new : Content) → IsCheckpointPut k old new → IsAt k new
put_at k old new put = record { bytes = put.bytes; is = ap (λ (x : Content). x.checkpoint) put.put; text = put.text }

-- nothing was kept
pub unkept_at : (k : Checkpoint) (c : Content) (r : Result Made Stop) → IfOk r (IsUnkept k) → IsAt k c → IfOk r (λ made. IsAt made.checkpoint c)
unkept_at k c (Ok made) kept at = subst (λ (x : Checkpoint). IsAt x c) (sym kept.checkpoint) at
unkept_at k c (Err why) kept at = tt

-- once a report is closed, or none was to be
pub open_stands : (k : Checkpoint) (c : Content) → k.phase ≡ Open → IsAt k c → StandsAt c (goes_on_at k)
open_stands k c going at = (k, (at, subst (λ (p : Phase). position k ≡ goes_on_in p k) (sym going) refl))

pub closed_stands : (k : Checkpoint) (old new : Content) → k.phase ≡ Closing → IsFinished k old new → StandsAt new (goes_on_at k)
closed_stands k old new ends done = (begun_anew k, (put_at (begun_anew k) done.between new done.next, subst (λ (p : Phase). position (begun_anew k) ≡ goes_on_in p k) (sym ends) refl))
