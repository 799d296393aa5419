use Rattle.std.proofs.lemmas.Result.{err_from_is_err_and}
use Rattle.ocfl_closed.proofs.{Lost.{all_taken, one_taken}, RowTexts.{no_list}}
use Rattle.ocfl_closed.proofs.rows.take_rows.Goals as goal

pub returns-then-not-branch-clause-taken : goal.returns-then-not-branch-clause-taken
returns-then-not-branch-clause-taken g c =
    all_taken (g.R.Read.remaining c.args.list.now) (g.R.Read.remaining c.loop.list) c.args.places.now.items c.loop.places.items c.loop.invariant (c.in_ok-read_next.ensures.end c.if-not-branch.true)

pub loop-preserved : goal.loop-preserved
loop-preserved g c =
    one_taken (g.R.Read.remaining c.args.list.now) (g.R.Read.remaining c.loop.list) (g.R.Read.remaining c.read_next.new.list) c.args.places.now.items c.loop.places.items c.take_row.new.places.items
    c.read_next.new.row.items c.as_slice.result.now c.loop.invariant c.read_next.ensures.rest c.as_slice.ensures.value c.in_ok-take_row.ensures.taken

pub returns-in_err-take_row-clause-bad : goal.returns-in_err-take_row-clause-bad
returns-in_err-take_row-clause-bad g c =
    let inv = c.loop.invariant in
    let p = err_from_is_err_and c.from_residual-in_err-take_row.result c.from_residual-in_err-take_row.ensures.1 in
    rw (p.1, p.2) (λ e. no_list (g.R.Read.remaining c.args.list.now) (g.R.Read.remaining c.loop.list) inv.rows c.read_next.new.row.items c.as_slice.result.now inv.places inv.read c.in_ok-read_next.ensures.row
    (c.in_ok-read_next.ensures.more c.if-not-branch.false) c.as_slice.ensures.value (c.in_err-take_row.ensures.bad e))
