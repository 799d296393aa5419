use Rattle.ocfl_tasks.proofs.Begun.{known_lent, performed_with}
use Rattle.ocfl_tasks.proofs.doing.perform_with.Goals as goal

pub returns : goal.returns
returns g c =
    let e = c.perform_part.ensures in
    performed_with g.T.Tree.told g.T.Tree.state g.W.Write.contents _ _ _ _ _ _ _ _ _
    (known_lent g.R.Read.remaining c.as_mut.result c.args.reader.now c.as_mut.ensures.value)
    (record { any_store = e.any_store; said_is = e.said; refused = e.refused; handed_back = e.handed_back; of_told = e.told })
