use Rattle.std.proofs.lemmas.Result.{err_from_is_err_and}
use Rattle.ocfl_separators.proofs.{Orders.{names_last}, PartsTexts.{path_of_line, other_refused}}
use Rattle.ocfl_separators.proofs.reading.read_line.Goals as goal

pub returns-in-Err-Bad-clause-bad : goal.returns-in-Err-Bad-clause-bad
returns-in-Err-Bad-clause-bad c = λ _ p after k f.
    let name = names_last c.args.separators.now p k.names in
    c.in-Err-Bad.ensures.bad (cc c.in-Err-Bad.field-0-is) p name (path_of_line c.args.text.now c.in-Some.path.now c.in-Some.rest.now p after c.in-Some.ensures.found c.in-Some.ensures.first name f)

pub returns-in_err-push-clause-bad : goal.returns-in_err-push-clause-bad
returns-in_err-push-clause-bad c = λ e.
    let passed = err_from_is_err_and c.from_residual.result c.from_residual.ensures.1 in
    other_refused c.args.text.now c.in-Some.path.now c.in-Some.rest.now c.args.separators.now c.in-Ok.place c.in-Some.ensures.found c.in-Some.ensures.first c.in-Ok.ensures.ok c.in-Ok.ensures.names
    (c.in_err-push.ensures.not_above (cc (passed.1, passed.2, e)))
