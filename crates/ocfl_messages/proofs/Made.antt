-- Texts that are appended once they are made, and one after the other.
use Rattle.std.proofs.Common.{◌≡◌, ℕ, ◌+◌, ◌<◌, List, [], ◌∷◌, ◌++◌, length, get_or, map, take, flat_map, Result, Ok, Err, IfOk, String, string_bytes, ap, sym, ◌∙◌}
use Rattle.std.proofs.lemmas.List.{flat_map_more, map_more, take_more}
use Rattle.std.specs.{Prelude.{IsOkAnd}, declared.alloc.Global.{Global}}
use Rattle.ocfl_tree.specs.Place.{Text}

-- what was appended is what was to be made
pub made_text : {E : Type 0} (r : Result (String Global) E) (old new t : Text) → IfOk r (λ s. string_bytes s ≡ t) → IsOkAnd r (λ s. new ≡ old ++ string_bytes s) → new ≡ old ++ t
made_text (Ok s) old new t is put = put ∙ ap (λ x. old ++ x) is
made_text (Err e) old new t is put = absurd put

-- one more of a list
pub each_more : {X : Type 0} (f : X → Text) (xs : List X) (i : ℕ) (x : X) (t t0 t1 : Text) → i < length xs → x ≡ get_or xs i x
    → t1 ≡ t0 ++ f x → t0 ≡ t ++ flat_map f (take i xs) → t1 ≡ t ++ flat_map f (take (i + 1) xs)
each_more f xs i x t t0 t1 l is e h =
    e ∙ ap (λ s. s ++ f x) h ∙ flat_map_more f t (take i xs) x
    ∙ ap (λ ys. t ++ flat_map f ys) (sym (take_more xs i x l ∙ ap (λ y. take i xs ++ y ∷ []) (sym is)))

-- the same of a list of others
pub each_of_more : {X Y : Type 0} (f : Y → Text) (g : X → Y) (xs : List X) (i : ℕ) (x : X) (t t0 t1 : Text) → i < length xs → x ≡ get_or xs i x
    → t1 ≡ t0 ++ f (g x) → t0 ≡ t ++ flat_map f (map g (take i xs)) → t1 ≡ t ++ flat_map f (map g (take (i + 1) xs))
each_of_more f g xs i x t t0 t1 l is e h =
    e ∙ ap (λ s. s ++ f (g x)) h ∙ flat_map_more f t (map g (take i xs)) (g x)
    ∙ ap (λ ys. t ++ flat_map f ys) (sym (map_more g xs i x l ∙ ap (λ y. map g (take i xs) ++ g y ∷ []) (sym is)))
