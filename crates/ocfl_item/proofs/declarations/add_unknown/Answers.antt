use Rattle.ocfl_item.proofs.declarations.add_unknown.Goals as goal

pub returns-in-None-clause-lines : goal.returns-in-None-clause-lines
returns-in-None-clause-lines c = λ rest e. absurd (c.in-None.ensures rest e)
