-- One part more, of which the last closed cycle is known.
use Rattle.std.proofs.Common.{◌≡◌, List, [], ◌∷◌, ◌++◌, Option, refl, ap, ◌∙◌, arith}
use Rattle.std.specs.Prelude.{min}
use Rattle.ocfl_joining.specs.Facts.{last_by, last_of_all}
use Rattle.ocfl_joining.specs.declared.facts.Facts.{Facts}

pub last_more : (all : List (Option Facts)) (facts : Option Facts) → last_of_all (all ++ facts ∷ []) ≡ min (last_by facts) (last_of_all all)
last_more [] facts = refl
last_more (f ∷ all) facts =
    let swap : min (last_by f) (min (last_by facts) (last_of_all all)) ≡ min (last_by facts) (min (last_by f) (last_of_all all)) = omega arith in
    ap (min (last_by f)) (last_more all facts) ∙ swap
