-- Going through a list one element after the other, and joining what each gives.
use Rattle.std.proofs.Common.{◌≡◌, List, [], ◌∷◌, ◌++◌, sym, ◌∙◌, ap, map, append_assoc}
use Rattle.std.proofs.{lemmas.List.{append-nil, map_push}, lemmas.Grind.{flat_map-append}}
use Rattle.std.specs.Prelude.{flat_map}

pub joined_push : {P X A : Type 0} (view : P → X) (f : X → List A) (xs : List P) (x : P) (front old new : List A)
    → old ≡ front ++ flat_map f (map view xs) → new ≡ old ++ f (view x) → new ≡ front ++ flat_map f (map view (xs ++ x ∷ []))
joined_push view f xs x front old new so_far e =
    let one : flat_map f (map view (xs ++ x ∷ [])) ≡ flat_map f (map view xs) ++ f (view x) =
    ap (flat_map f) (map_push view xs x) ∙ flat_map-append f (map view xs) (view x ∷ []) ∙ ap (λ ys. flat_map f (map view xs) ++ ys) (append-nil (f (view x))) in
    e ∙ ap (λ ys. ys ++ f (view x)) so_far ∙ append_assoc front _ (f (view x)) ∙ ap (λ ys. front ++ ys) (sym one)
