use Rattle.ocfl_join_disk.proofs.{Beside.{others_made}, Joined.{same_made}, Putting.{made_puts}}
use Rattle.ocfl_join_disk.proofs.making.MakingReports.create.Goals as goal

pub returns-clause-put : goal.returns-clause-put
returns-clause-put g c = λ told. same_made _ _ _ _ (c.in_ok-create.ensures.made told)

pub returns-clause-crash : goal.returns-clause-crash
returns-clause-crash g c = λ told. made_puts _ _ _ _ (c.in_ok-create.ensures.made told)

pub returns-clause-others : goal.returns-clause-others
returns-clause-others g c = λ told. others_made _ _ _ _ (c.in_ok-create.ensures.made told)
