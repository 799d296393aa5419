use Rattle.std.proofs.Common.{sym, subst}
use Rattle.ocfl_item.specs.Ways.{Stops}
use Rattle.ocfl_item.proofs.LooksCalls.{list_stops}
use Rattle.ocfl_item.proofs.folder.list.Goals as goal

pub returns-in-Err-clause-told : goal.returns-in-Err-clause-told
returns-in-Err-clause-told g c = λ h root over further l.
    subst (Stops further root _ _ _ _) (sym c.fault_at.ensures) (list_stops further root _ _ c.args.place c.in-Err.trouble over l (c.in-Err.ensures.lists h))
