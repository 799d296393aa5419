-- What is kept at an index, and where it is looked up.
use Rattle.std.proofs.Common.{◌≡◌, ◌≢◌, ℕ, ◌+◌, ◌<◌, cond, List, [], ◌∷◌, ◌++◌, length, drop, get_or, Some, sym, ◌∙◌, ap, refl}
use Rattle.std.proofs.lemmas.List.{drop_more}
use Rattle.ocfl_tree.specs.{Place.{Place}, Calls.{change_last}}
use Rattle.ocfl_tree.specs.StorageRoot.{StorageRoot, Leaf, lookup}
use Rattle.ocfl_tree.proofs.Places.{place_eq-Decides, not_decided}

-- the rest of a list from an item that was read
pub drop_item : {X : Type 0} (xs : List X) (i : ℕ) (x : X) → i < length xs → x ≡ get_or xs i x → drop i xs ≡ x ∷ drop (i + 1) xs
drop_item xs i x h is = drop_more xs i x h ∙ ap (λ y. y ∷ drop (i + 1) xs) (sym is)

pub lookup_here : (root : StorageRoot) (e : Place × Leaf) (p : Place) → e.0 ≡ p → lookup (e ∷ root) p ≡ Some e.1
lookup_here root e p is = ap (λ b. cond b (Some e.1) (lookup root p)) ((place_eq-Decides e.0 p).1 is)

pub lookup_other : (root : StorageRoot) (e : Place × Leaf) (p : Place) → e.0 ≢ p → lookup (e ∷ root) p ≡ lookup root p
lookup_other root e p other = ap (λ b. cond b (Some e.1) (lookup root p)) (not_decided _ _ (place_eq-Decides e.0 p) other)

pub change_last-append : {A : Type 0} (f : A → A) (xs : List A) (x : A) → change_last f (xs ++ x ∷ []) ≡ xs ++ f x ∷ []
change_last-append f [] x = refl
change_last-append f (y ∷ []) x = refl
change_last-append f (y ∷ z ∷ xs) x = ap (λ ys. y ∷ ys) (change_last-append f (z ∷ xs) x)
