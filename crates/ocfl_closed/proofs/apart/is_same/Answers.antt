use Rattle.std.proofs.Common.{◌≡◌, Decides, sym, subst}
use Rattle.ocfl_tree.proofs.Places.{path_eq-Decides}
use Rattle.ocfl_closed.proofs.apart.is_same.Goals as goal

pub returns : goal.returns
returns c = subst (λ b. Decides b (c.args.place.now ≡ c.args.other.now)) (sym c.eq.ensures) (path_eq-Decides c.args.place.now c.args.other.now)
