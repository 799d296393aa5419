use Rattle.std.proofs.{Common.{inr}, lemmas.Result.{err_from_is_err_and}}
use Rattle.ocfl_disk.proofs.Fronts.{fits_whole, long_whole}
use Rattle.ocfl_disk.proofs.beside.read_checkpoint.Goals as goal

pub returns-in_err-fit_found-clause-cause : goal.returns-in_err-fit_found-clause-cause
returns-in_err-fit_found-clause-cause g c = λ told is.
    let p = err_from_is_err_and c.from_residual-in_err-fit_found.result c.from_residual-in_err-fit_found.ensures.1 in
    rw (p.1, p.2) (inr (long_whole c.in_ok-found.found _ (c.in_ok-found.ensures.value told is) c.in_err-fit_found.ensures.err.0, c.in_err-fit_found.ensures.err.1))

pub returns-clause-value : goal.returns-clause-value
returns-clause-value g c = λ told is. fits_whole c.in_ok-found.found _ (c.in_ok-found.ensures.value told is) c.in_ok-fit_found.ensures.ok
