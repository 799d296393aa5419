-- Loops over a slice, each step of which appends something.
use Rattle.std.proofs.Common.{◌≡◌, ℕ, ◌+◌, ◌<◌, ◌≤◌, List, [], ◌∷◌, ◌++◌, length, get_or, take, map, sym, ap, ◌∙◌, append_assoc}
use Rattle.std.proofs.lemmas.List.{map_more, map_push, take_all, take_more}
use Rattle.std.specs.Prelude.{flat_map}
use Rattle.ocfl_inventory.proofs.Gatherings.{joined_push}

-- h is what is appended for the elements that were met
pub appended : {A N : Type 0} (h : List A → List N) (xs : List A) (i : ℕ) (first old new ns : List N) → h (take (i + 1) xs) ≡ h (take i xs) ++ ns → old ≡ first ++ h (take i xs) → new ≡ old ++ ns
    → new ≡ first ++ h (take (i + 1) xs)
appended h xs i first old new ns more so_far e =
    e ∙ ap (λ ms. ms ++ ns) so_far ∙ append_assoc first (h (take i xs)) ns ∙ ap (λ ms. first ++ ms) (sym more)

pub appended_all : {A N : Type 0} (h : List A → List N) (xs : List A) (i : ℕ) (first old : List N) → length xs ≤ i → old ≡ first ++ h (take i xs) → old ≡ first ++ h xs
appended_all h xs i first old end so_far = so_far ∙ ap (λ ys. first ++ h ys) (take_all i xs end)

pub mapped_more : {A N : Type 0} (g : A → N) (xs : List A) (i : ℕ) (d : A) (n : N) → i < length xs → n ≡ g (get_or xs i d) → map g (take (i + 1) xs) ≡ map g (take i xs) ++ n ∷ []
mapped_more g xs i d n h same = map_more g xs i d h ∙ ap (λ m. map g (take i xs) ++ m ∷ []) (sym same)

-- the same, if elements are seen by a view
pub seen_more : {A B N : Type 0} (g : B → N) (view : A → B) (xs : List A) (i : ℕ) (d : A) (n : N) → i < length xs → n ≡ g (view (get_or xs i d))
    → map g (map view (take (i + 1) xs)) ≡ map g (map view (take i xs)) ++ n ∷ []
seen_more g view xs i d n h same = ap (map g) (map_more view xs i d h) ∙ map_push g (map view (take i xs)) (view (get_or xs i d)) ∙ ap (λ m. map g (map view (take i xs)) ++ m ∷ []) (sym same)

-- one more copy of an element
pub copied_more : {A B N : Type 0} (f : B → N) (g : A → N) (xs : List A) (i : ℕ) (d : A) (old new : List B) (y : B) → i < length xs → f y ≡ g (get_or xs i d)
    → map f old ≡ map g (take i xs) → new ≡ old ++ y ∷ []
    → map f new ≡ map g (take (i + 1) xs)
copied_more f g xs i d old new y h same so_far e =
    ap (map f) e ∙ map_push f old y ∙ ap (λ ms. ms ++ f y ∷ []) so_far ∙ sym (mapped_more g xs i d (f y) h same)

pub several_more : {A B N : Type 0} (view : A → B) (f : B → List N) (xs : List A) (i : ℕ) (x : A) (first old new : List N) → i < length xs → x ≡ get_or xs i x
    → old ≡ first ++ flat_map f (map view (take i xs)) → new ≡ old ++ f (view x)
    → new ≡ first ++ flat_map f (map view (take (i + 1) xs))
several_more view f xs i x first old new h is so_far e =
    joined_push view f (take i xs) x first old new so_far e
    ∙ ap (λ ys. first ++ flat_map f (map view ys)) (ap (λ y. take i xs ++ y ∷ []) is ∙ sym (take_more xs i x h))
