-- Names, and lists of them.
use Rattle.std.proofs.Common.{ℕ, List, [], ◌∷◌, ◌++◌}
use Rattle.std.proofs.lemmas.List.Elements.{All-append, All-cons, All-nil}
use Rattle.ocfl_tree.specs.Name.{IsName, IsPlace}

pub place_push : (p : List (List ℕ)) (n : List ℕ) → IsPlace p → IsName n → IsPlace (p ++ n ∷ [])
place_push p n h k = All-append IsName p (n ∷ []) h (All-cons IsName n [] k (All-nil IsName))
