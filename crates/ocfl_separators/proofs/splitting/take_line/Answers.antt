use Rattle.std.proofs.{Common.{ap}, lemmas.Result.{IfOk-weaker, IfErr-weaker}}
use Rattle.ocfl_separators.proofs.Cuts.{place_refused, text_of_line}
use Rattle.ocfl_separators.proofs.splitting.take_line.Goals as goal

pub returns-clause-ok : goal.returns-clause-ok
returns-clause-ok c =
    let read = c.in-Ok.ensures.ok in
    IfOk-weaker c.take_cost.result _ _ (λ left f done h. (read.0, read.1, f done read.0 (text_of_line c.args.text.now read.0 read.1) read.2 h)) c.take_cost.ensures.ok

pub returns-clause-refused : goal.returns-clause-refused
returns-clause-refused c =
    let read = c.in-Ok.ensures.ok in
    IfErr-weaker c.take_cost.result _ _
    (λ stop f done h. place_refused c.args.budget done c.args.number c.args.text.now c.in-Ok.said.place read.0 stop read.1 (ap (λ t. t.place) read.2) (f done h)) c.take_cost.ensures.refused
