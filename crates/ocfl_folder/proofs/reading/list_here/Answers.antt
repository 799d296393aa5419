use Rattle.ocfl_folder.proofs.Coverings.{ordered_listing}
use Rattle.ocfl_folder.proofs.reading.list_here.Goals as goal

pub returns-clause-listed : goal.returns-clause-listed
returns-clause-listed g c = λ told p is. ordered_listing (λ v. v.items) c.into_ordered.result _ p _ (c.in_ok-list_all.ensures.listed told p is) c.into_ordered.ensures.same
