use Rattle.std.proofs.Common.{◌∙◌, ◌++◌, ◌∷◌, [], ap, sym}
use Rattle.ocfl_tree.specs.Place.{Place}
use Rattle.ocfl_night.proofs.Branches.{may_leave_more}
use Rattle.ocfl_night.proofs.tally.Tally.leave_out_at.Goals as goal

pub returns-in_ok-push-in-Some-clause-may_leave : goal.returns-in_ok-push-in-Some-clause-may_leave
returns-in_ok-push-in-Some-clause-may_leave c = may_leave_more c.args.self.now.left.items c.push.new.self.items c.args.place.now c.in-Some.branch (sym c.in-Some.is ∙ c.in_ok-branch.ensures) (c.in_ok-push-in-Some.ensures.items ∙ ap (λ (b : Place). c.args.self.now.left.items ++ b ∷ []) c.in_ok-try_clone-in-Some.ensures)
