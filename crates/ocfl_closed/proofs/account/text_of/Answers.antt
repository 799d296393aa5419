use Rattle.ocfl_closed.proofs.account.text_of.Goals as goal

pub returns : goal.returns
returns c = λ w n changes gone found why.
    let closing = c.closing_of-closing.ensures w n changes gone found why in
    (c.closing_of-closing.result, (closing, λ few. c.in_ok-text.ensures n.findings closing.appeared few))
