use Rattle.std.proofs.{Common.{ap, inr, map, sym, subst}, lemmas.Result.{err_from_is_err_and}}
use Rattle.std.specs.Prelude.{is_some}
use Rattle.ocfl_arguments.specs.Asks.{Asks}
use Rattle.ocfl_arguments.proofs.Stops.{no_fault, has_fault, subcommand_is, stops_rightly}
use Rattle.ocfl_arguments.proofs.asking.read_words.Goals as goal

pub returns-in_err-matches-clause-stop : goal.returns-in_err-matches-clause-stop
returns-in_err-matches-clause-stop g c =
    let words = map g.S.AsStr.text c.args.words.now in
    let e = c.in_err-matches.field-0.0 in
    let p = err_from_is_err_and c.from_residual.result c.from_residual.ensures.1 in
    rw p.1 (stops_rightly words e p.0 p.2 (has_fault _ words e c.requires.0 c.in_err-matches.ensures.kinds))

pub returns-in-Some-clause-faultless : goal.returns-in-Some-clause-faultless
returns-in-Some-clause-faultless g c =
    no_fault _ (map g.S.AsStr.text c.args.words.now) c.requires.0 c.in_ok-matches.ensures.kinds

pub returns-in-Some-clause-asked : goal.returns-in-Some-clause-asked
returns-in-Some-clause-asked g c =
    let met = subcommand_is _ (map g.S.AsStr.text c.args.words.now) c.in_ok-matches.matches c.requires.0 c.in_ok-matches.ensures.ok.2 in
    let found = rw c.in-Some.is at c.in_ok-asked.ensures.found in
    subst (λ sub. Asks sub c.in-Some.asked) met found

pub returns-clause-stop : goal.returns-clause-stop
returns-clause-stop g c =
    let words = map g.S.AsStr.text c.args.words.now in
    let met = subcommand_is _ words c.in_ok-matches.matches c.requires.0 c.in_ok-matches.ensures.ok.2 in
    inr (
      c.in_ok-usage_error-in-None.ensures,
      no_fault _ words c.requires.0 c.in_ok-matches.ensures.kinds,
      λ a h. c.in_ok-asked.ensures.missing (ap is_some c.in-None.is) a (subst (λ sub. Asks sub a) (sym met) h),
    )
