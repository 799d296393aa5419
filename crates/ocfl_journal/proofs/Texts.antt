-- Texts that are put one after the other.
use Rattle.std.proofs.Common.{◌≡◌, ◌∙◌, ◌+◌, ◌<◌, ◌++◌, ◌∷◌, [], ℕ, List, String, Global, ap, append_assoc, get_or, length, map, string_bytes, sym, take}
use Rattle.std.proofs.lemmas.List.{map-append, map_more}
use Rattle.ocfl_tree.specs.Place.{Text}

-- one more
pub put_more : {X : Type 0} (f : X → Text) (xs : List X) (i : ℕ) (x : X) (front : List Text) (old new : List (String Global)) (t : String Global) → i < length xs → x ≡ get_or xs i x → new ≡ old ++ t ∷ [] → string_bytes t ≡ f x
    → map string_bytes old ≡ front ++ map f (take i xs) → map string_bytes new ≡ front ++ map f (take (i + 1) xs)
put_more f xs i x front old new t l is grew same so =
    ap (map string_bytes) grew ∙ map-append string_bytes old (t ∷ []) ∙ ap (λ ts. ts ++ string_bytes t ∷ []) so
    ∙ append_assoc front (map f (take i xs)) (string_bytes t ∷ [])
    ∙ ap (λ b. front ++ (map f (take i xs) ++ b ∷ [])) same
    ∙ ap (λ y. front ++ (map f (take i xs) ++ f y ∷ [])) is
    ∙ ap (λ ts. front ++ ts) (sym (map_more f xs i x l))
