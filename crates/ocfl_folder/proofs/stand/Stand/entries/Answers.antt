use Rattle.std.proofs.Common.{ap}
use Rattle.ocfl_tree.specs.Store.{Store}
use Rattle.ocfl_folder.specs.Internal.Absence.{IsAbsent}
use Rattle.ocfl_folder.proofs.Answering.{listed_at}
use Rattle.ocfl_folder.proofs.stand.Stand.entries.Goals as goal

pub returns-clause-listed : goal.returns-clause-listed
returns-clause-listed g c = λ told. listed_at (λ v. v.items) IsAbsent c.list_here.result _ _ _ _ (ap (λ (s : Store). s.tree) (c.stand_in.ensures.store told)) c.path.ensures.place
    (c.list_here.ensures.listed told _ (c.in_ok-stand_in.ensures.here told)) c.list_here.ensures.present
