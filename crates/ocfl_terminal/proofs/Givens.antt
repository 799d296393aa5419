-- What is given on of words that are named otherwise.
use Rattle.std.proofs.Common.{◌≡◌, ◌∙◌, ap, subst, List, map, Result, IfOk}
use Rattle.ocfl_tree.specs.Place.{Text}
use Rattle.ocfl_arguments.specs.declared.task.Asked.{Asked}
use Rattle.ocfl_terminal.specs.Words.{IsGiven}

pub given_named : {E X : Type 0} (r : Result Asked E) (f : X → Text) (slice items : List X) (t : List Text)
    → slice ≡ items → map f items ≡ t → IfOk r (IsGiven (map f slice)) → IfOk r (IsGiven t)
given_named r f slice items t same named it = subst (λ (u : List Text). IfOk r (IsGiven u)) (ap (map f) same ∙ named) it
