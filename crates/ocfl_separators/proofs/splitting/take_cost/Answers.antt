use Rattle.std.proofs.Common.{◌<◌, ◌^◌, Err, ap, sym, ◌∙◌, arith}
use Rattle.std.proofs.lemmas.Result.{err_from_is_err_and}
use Rattle.ocfl_separators.proofs.Cuts.{first_taken, same_taken, later_taken, close_refused}
use Rattle.ocfl_separators.proofs.splitting.take_cost.Goals as goal

pub returns-in_default-clause-ok : goal.returns-in_default-clause-ok
returns-in_default-clause-ok c = λ done line has e h.
    let small : c.args.budget < 2 ^ 64 = omega arith in
    first_taken c.args.budget small done c.args.cutter.separators c.args.cutter.spent c.args.cutter.item h c.args.said c.in_default.is line has e

pub returns-in_err-spent-in-Less-clause-refused : goal.returns-in_err-spent-in-Less-clause-refused
returns-in_err-spent-in-Less-clause-refused c =
    let small : c.args.budget < 2 ^ 64 = omega arith in
    let p = err_from_is_err_and c.from_residual.result c.from_residual.ensures.1 in
    rw (p.1, p.2) (λ done h.
    close_refused c.args.budget small done c.args.cutter.separators c.args.cutter.spent c.args.cutter.item h c.in-Some.item c.args.number c.args.said.place
    c.in_err-spent-in-Less.field-0.0 c.in-Some.is
    c.in_err-spent-in-Less.ensures.stop (λ e. c.in_err-spent-in-Less.ensures.many (ap Err e)))

pub returns-in_ok-spent-in-Less-clause-ok : goal.returns-in_ok-spent-in-Less-clause-ok
returns-in_ok-spent-in-Less-clause-ok c = λ done line has e h.
    let small : c.args.budget < 2 ^ 64 = omega arith in
    later_taken c.args.budget small done c.args.cutter.separators c.args.cutter.spent c.args.cutter.item h c.in-Some.item c.args.said c.close.new.separators c.in_ok-spent-in-Less.spent c.in-Some.is
    (sym c.cmp.ensures ∙ c.in-Less.is) c.in_ok-spent-in-Less.ensures.cuts c.in_ok-spent-in-Less.ensures.above c.in_ok-spent-in-Less.ensures.few line has e

pub returns-in-Equal-clause-ok : goal.returns-in-Equal-clause-ok
returns-in-Equal-clause-ok c = λ done line has e h.
    let small : c.args.budget < 2 ^ 64 = omega arith in
    same_taken c.args.budget small done c.args.cutter.separators c.args.cutter.spent c.args.cutter.item h c.in-Some.item c.args.said c.saturating_add.result
    c.in-Some.is (sym c.cmp.ensures ∙ c.in-Equal.is)
    c.saturating_add.ensures line has e
