use Rattle.std.proofs.Common.{◌≡◌, subst}
use Rattle.std.specs.Prelude.{◌↔◌, IsTrue}
use Rattle.ocfl_state.specs.Checkpoint.{Checkpoint}
use Rattle.ocfl_night.proofs.owning.is_at.Goals as goal

pub returns : goal.returns
returns c = subst (λ (w : Checkpoint). IsTrue c.is_same_place.result ↔ (w.root.path ≡ c.args.path.now)) c.checkpoint.view_is c.is_same_place.ensures
