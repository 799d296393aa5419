use Rattle.std.proofs.Common.{refl, subst, ◌≡◌, true}
use Rattle.ocfl_tree.proofs.laws.what_is_told_is_of_the_tree.Goals as goal

pub returns-clause-holds : goal.returns-clause-holds
returns-clause-holds c = λ s holds h. h refl s.tree refl

pub returns-clause-said : goal.returns-clause-said
returns-clause-said c = λ told s holds given is root e. subst (λ r. holds r ≡ true) e (given is)
