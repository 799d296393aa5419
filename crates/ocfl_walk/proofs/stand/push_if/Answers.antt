use Rattle.std.proofs.Common.{[], ◌∙◌, append-nil, ap, length, sym}
use Rattle.ocfl_walk.proofs.stand.push_if.Goals as goal

pub returns-in-Some : goal.returns-in-Some
returns-in-Some c = rw c.in-Some.is (λ p h. c.push.ensures.piles p [] (sym h.0 ∙ sym (append-nil c.in-Some.folder.place)) (sym h.1 ∙ ap length (sym h.0)))
