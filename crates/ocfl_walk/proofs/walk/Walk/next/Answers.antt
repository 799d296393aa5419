use Rattle.ocfl_walk.proofs.WalkWords.{all_told}
use Rattle.ocfl_walk.proofs.walk.Walk.next.Goals as goal

pub returns-clause-told : goal.returns-clause-told
returns-clause-told g c = λ h root over further last st.
    all_told further root (g.T.Tree.state c.args.store.now) (g.T.Tree.state c.next_within.new.store) last c.of_all-end.result c.of_all-end.ensures.under
    c.of_all-end.ensures.below c.next_within.result (c.next_within.ensures.told h root over further last st)
