use Rattle.std.proofs.{Common.{◌≡◌, [], ◌∷◌, ◌++◌, sym, subst, ◌∙◌}, lemmas.Result.{err_from_is_err_and}}
use Rattle.ocfl_report.specs.{Line.{line_of}, Text.{IsLineText}}
use Rattle.ocfl_messages.proofs.Pieces.{line_refused, line_taken}
use Rattle.ocfl_messages.proofs.found.Found.take_end.Goals as goal

pub returns-in_err-line-clause-bad : goal.returns-in_err-line-clause-bad
returns-in_err-line-clause-bad c = λ e head b after h.
    let p = err_from_is_err_and c.from_residual-in_err-line.result c.from_residual-in_err-line.ensures.1 in
    let same : c.as_slice.result.now ≡ (c.args.self.now.rest.items ++ c.args.part.now) ++ 10 ∷ [] = c.as_slice.ensures.value ∙ c.in_ok-put_end.ensures in
    line_refused c.args.known.now head c.args.self.now b c.args.part.now after h c.requires
    (λ l t. c.in_err-line.ensures.bad (cc (p.1, p.2, e)) l (subst (λ x. IsLineText x l) (sym same) t))

pub returns-clause-ok : goal.returns-clause-ok
returns-clause-ok c = λ head b h.
    let same : c.as_slice.result.now ≡ (c.args.self.now.rest.items ++ c.args.part.now) ++ 10 ∷ [] = c.as_slice.ensures.value ∙ c.in_ok-put_end.ensures in
    line_taken c.args.known.now head c.args.self.now _ b c.args.part.now (line_of c.in_ok-line.line) h c.clear.ensures.items
    (subst (λ x. IsLineText x (line_of c.in_ok-line.line)) same c.in_ok-line.ensures.ok)
    c.in_ok-gather.ensures.gathered
