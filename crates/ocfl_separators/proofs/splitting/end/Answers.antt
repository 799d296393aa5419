use Rattle.std.proofs.Common.{◌<◌, ◌^◌, ◌≤◌, Err, ap, sym, subst, length, ◌∙◌, arith}
use Rattle.std.proofs.lemmas.Result.{err_from_is_err_and}
use Rattle.ocfl_separators.specs.Parts.{max_separators}
use Rattle.ocfl_separators.proofs.Cuts.{end_refused, none_left, last_closed}
use Rattle.ocfl_separators.proofs.splitting.end.Goals.{in-Some+in_ok-close, in_default}
use Rattle.ocfl_separators.proofs.splitting.end.Goals as goal

pub returns-in_err-close-clause-refused : goal.returns-in_err-close-clause-refused
returns-in_err-close-clause-refused c =
    let small : c.args.budget < 2 ^ 64 = omega arith in
    let p = err_from_is_err_and c.from_residual.result c.from_residual.ensures.1 in
    rw (p.1, p.2) (λ done h.
    end_refused c.args.budget small done c.args.cutter.separators c.args.cutter.spent c.args.cutter.item h c.in-Some.item c.in_err-close.field-0.0 c.in-Some.is c.in_err-close.ensures.stop
    (λ e. c.in_err-close.ensures.many (ap Err e)))

pub returns-clause-ok : goal.returns-clause-ok
returns-clause-ok c = λ done h.
    let small : c.args.budget < 2 ^ 64 = omega arith in
    elim c.match-item.branch [
      | in-Some+in_ok-close w ↦ (
        w.separators-is
            ∙ last_closed c.args.budget small done c.args.cutter.separators c.args.cutter.spent c.args.cutter.item h w.in-Some.item w.close.new.separators
            w.in_ok-close.field-0 w.in-Some.is w.in_ok-close.ensures.cuts,
        subst (λ xs. length xs ≤ max_separators) (sym w.separators-is) (w.in_ok-close.ensures.few h.few),
      )
      | in_default w ↦ (
        w.separators-is ∙ none_left c.args.budget small done c.args.cutter.separators c.args.cutter.spent c.args.cutter.item h w.in_default.is,
        subst
            (λ xs. length xs ≤ max_separators) (sym w.separators-is) h.few,
      )
    ]
