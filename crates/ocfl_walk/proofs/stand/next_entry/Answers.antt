use Rattle.std.proofs.Common.{◌∙◌, ◌++◌, ◌∷◌, [], ap, sym, Some}
use Rattle.ocfl_walk.proofs.stand.next_entry.Goals as goal

pub returns : goal.returns
returns c =
    ap (λ x. Some x) (c.in_ok-child.ensures ∙ ap (λ d. d ++ c.in-Some.entry.now.name ∷ []) c.in_ok-directory.ensures)
    ∙ sym (c.in-Some.ensures c.args.last.now)
