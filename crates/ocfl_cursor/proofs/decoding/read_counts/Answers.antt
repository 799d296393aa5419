use Rattle.std.proofs.Common.{refl}
use Rattle.ocfl_cursor.proofs.CursorTexts.{begins_further, all_lines_left, after_cycle_line, after_runs_line, after_spent_line}
use Rattle.ocfl_cursor.proofs.decoding.read_counts.Goals as goal

pub returns-in_err-rest-clause-missing : goal.returns-in_err-rest-clause-missing
returns-in_err-rest-clause-missing c = λ e n m k f rest h g. c.in_err-rest.ensures.missing refl _ (begins_further c.args.version c.args.lines.now n m k f rest g)

pub returns-in_err-cycle-clause-missing : goal.returns-in_err-cycle-clause-missing
returns-in_err-cycle-clause-missing c = λ e n m k f rest h g.
    let left = all_lines_left c.args.version c.args.lines.now c.in_ok-rest.rest.now n m k f rest h c.in_ok-rest.ensures.found g in
    c.in_err-cycle.ensures.missing refl n _ h.cycle left.is

pub returns-in_err-runs-clause-missing : goal.returns-in_err-runs-clause-missing
returns-in_err-runs-clause-missing c = λ e n m k f rest h g.
    let v = c.args.version in
    let lines = c.args.lines.now in
    let left = all_lines_left v lines c.in_ok-rest.rest.now n m k f rest h c.in_ok-rest.ensures.found g in
    c.in_err-runs.ensures.missing refl m _ h.runs (after_cycle_line v c.in_ok-rest.rest.now c.in_ok-cycle.rest.now c.in_ok-cycle.cycle n m k f rest left c.in_ok-cycle.ensures.fits c.in_ok-cycle.ensures.found)

pub returns-in_err-spent-clause-missing : goal.returns-in_err-spent-clause-missing
returns-in_err-spent-clause-missing c = λ e n m k f rest h g.
    let v = c.args.version in
    let lines = c.args.lines.now in
    let left = all_lines_left v lines c.in_ok-rest.rest.now n m k f rest h c.in_ok-rest.ensures.found g in
    c.in_err-spent.ensures.missing refl k _ h.spent
    (after_runs_line v c.in_ok-rest.rest.now c.in_ok-cycle.rest.now c.in_ok-runs.rest.now c.in_ok-cycle.cycle c.in_ok-runs.runs n m k f rest left c.in_ok-cycle.ensures.fits c.in_ok-runs.ensures.fits
    c.in_ok-cycle.ensures.found c.in_ok-runs.ensures.found)

pub returns-in_err-files-clause-missing : goal.returns-in_err-files-clause-missing
returns-in_err-files-clause-missing c = λ e n m k f rest h g.
    let v = c.args.version in
    let lines = c.args.lines.now in
    let left = all_lines_left v lines c.in_ok-rest.rest.now n m k f rest h c.in_ok-rest.ensures.found g in
    c.in_err-files.ensures.missing refl f rest left.fits.files
    (after_spent_line v c.in_ok-rest.rest.now c.in_ok-cycle.rest.now c.in_ok-runs.rest.now c.in_ok-spent.rest.now c.in_ok-cycle.cycle c.in_ok-runs.runs c.in_ok-spent.spent n m k f rest left
    c.in_ok-cycle.ensures.fits c.in_ok-runs.ensures.fits c.in_ok-spent.ensures.fits c.in_ok-cycle.ensures.found c.in_ok-runs.ensures.found c.in_ok-spent.ensures.found)
