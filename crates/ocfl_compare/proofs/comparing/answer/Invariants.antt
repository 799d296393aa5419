use Rattle.ocfl_compare.specs.Internal.Turns.{IsSoFar}
use Rattle.ocfl_compare.proofs.comparing.answer.Given as goal

abbrev pub invariant-loop : goal.invariant-loop
invariant-loop g l =
    IsSoFar l.asked l.left (g.R.Read.remaining l.fn.before) (g.R.Read.remaining l.before) l.both.before.next l.both.before.count (g.S.Read.remaining l.fn.now) (g.S.Read.remaining l.now) l.both.now.next
    l.both.now.count l.both.shut (λ changes. g.T.TakeChange.takes l.fn.taker changes l.taker)
