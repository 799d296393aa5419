use Rattle.std.proofs.Common.{◌≡◌, ◌∙◌, ◌++◌, ◌∷◌, [], Err, ap, sym, arith}
use Rattle.ocfl_tree.specs.Place.{Text}
use Rattle.ocfl_night.proofs.Branches.{is_long, is_short}
use Rattle.ocfl_night.proofs.leaving.lengthened.Goals as goal

pub returns-in-Ok-clause-named : goal.returns-in-Ok-clause-named
returns-in-Ok-clause-named c =
    c.in-Ok.ensures.named ∙ c.as_str.ensures.value ∙ c.in_ok-push.ensures.bytes ∙ ap (λ (t : Text). t ++ _) c.in_ok-longer.ensures.ok ∙ ap (λ (t : Text). c.args.name.now ++ t) (c.in_ok-push.ensures.ascii (omega arith))

pub returns-in-Ok-clause-short : goal.returns-in-Ok-clause-short
returns-in-Ok-clause-short c = λ some.
    is_short c.args.name.now c.as_str.result.now (sym c.in-Ok.ensures.named ∙ returns-in-Ok-clause-named c) c.in-Ok.ensures.ok

pub returns-in-Err-Bad-clause-long : goal.returns-in-Err-Bad-clause-long
returns-in-Err-Bad-clause-long c =
    let text : c.as_str.result.now ≡ c.args.name.now ++ 1 ∷ [] = c.as_str.ensures.value ∙ c.in_ok-push.ensures.bytes ∙ ap (λ (t : Text). t ++ _) c.in_ok-longer.ensures.ok ∙ ap (λ (t : Text). c.args.name.now ++ t) (c.in_ok-push.ensures.ascii (omega arith)) in
    λ name none. is_long c.args.name.now c.as_str.result.now text (c.new.ensures.bad.0 (c.in-Err-Bad.is ∙ ap Err c.in-Err-Bad.field-0-is)) name
