use Rattle.std.proofs.Common.{◌∙◌, ◌++◌, ◌∷◌, [], ap, sym, map}
use Rattle.std.proofs.lemmas.List.{append-nil, map-append}
use Rattle.ocfl_messages.specs.{Finding.{finding_of}, Grouped.{one_if}}
use Rattle.ocfl_messages.proofs.respelt.add_if.Goals as goal

pub returns-in_ok-push : goal.returns-in_ok-push
returns-in_ok-push c =
    ap (map finding_of) c.in_ok-push.ensures.items ∙ map-append finding_of c.args.taken.now.items (c.in_ok-try_clone.field-0 ∷ [])
    ∙ ap (λ f. map finding_of c.args.taken.now.items ++ f ∷ []) c.in_ok-try_clone.ensures
    ∙ ap (λ b. map finding_of c.args.taken.now.items ++ one_if b (finding_of c.args.finding.now)) (sym c.if-is.true)

pub returns-else-is : goal.returns-else-is
returns-else-is c =
    sym (ap (λ b. map finding_of c.args.taken.now.items ++ one_if b (finding_of c.args.finding.now)) c.if-is.false ∙ append-nil (map finding_of c.args.taken.now.items))
