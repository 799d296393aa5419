use Rattle.ocfl_item.proofs.HeadCalls.{object_sidecars}
use Rattle.ocfl_item.proofs.object.read_sidecars.Goals as goal

pub returns : goal.returns
returns g c = record { told = λ h root over further here. c.sidecars_among.ensures.told h root over further (object_sidecars further root _ _ _ c.deref.ensures.value here) }
