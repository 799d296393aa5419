use Rattle.std.specs.Prelude.{Err, Ok}
use Rattle.std.proofs.lemmas.Result.{err_from_is_err_and}
use Rattle.ocfl_item.proofs.HeadCalls.{table_read_from}
use Rattle.ocfl_walk.proofs.DescentLaws.{opened_memory, opened_none, opened_stops, opened_table}
use Rattle.ocfl_walk.proofs.entry.opened.Goals as goal

pub returns-in_err-table-clause-told : goal.returns-in_err-table-clause-told
returns-in_err-table-clause-told g c = λ h root over here.
    let p = err_from_is_err_and c.from_residual.result c.from_residual.ensures.1 in
    rw (p.1, p.2) (opened_stops c.args.further root _ _ _ _ (table_read_from c.args.further root _ _ here _ _ (Err _) (c.in_err-table.ensures.opened h root over here) tt))

pub returns-in_default-clause-told : goal.returns-in_default-clause-told
returns-in_default-clause-told g c = λ h root over here.
    opened_none c.args.further root _ _ _ _ _ (table_read_from c.args.further root _ _ here _ _ (Ok (_, _)) (c.in_ok-table.ensures.opened h root over here) (c.in_ok-table.ensures.told h root over here)) c.in_default.is

pub returns-in_err-place-clause-told : goal.returns-in_err-place-clause-told
returns-in_err-place-clause-told g c = λ h root over here.
    let p = err_from_is_err_and c.from_residual-in_err-place.result c.from_residual-in_err-place.ensures.1 in
    rw (p.1, p.2) (opened_memory c.args.further root _ _ _ _ _
    (table_read_from c.args.further root _ _ here _ _ (Ok (_, _)) (c.in_ok-table.ensures.opened h root over here) (c.in_ok-table.ensures.told h root over here)))

pub returns-clause-told : goal.returns-clause-told
returns-clause-told g c = λ h root over here.
    opened_table c.args.further root _ _ _ _ _ _ c.in-Some.table (table_read_from c.args.further root _ _ here _ _ (Ok (_, _)) (c.in_ok-table.ensures.opened h root over here) (c.in_ok-table.ensures.told h root over here))
    c.in-Some.is c.in_ok-place.ensures
