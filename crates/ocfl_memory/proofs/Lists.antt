-- What is kept at an index, and where it is looked up.
use Rattle.std.proofs.Common.{◌≡◌, ℕ, ◌+◌, ◌<◌, List, [], ◌∷◌, ◌++◌, length, drop, get_or, set, Some, sym, ◌∙◌, ap, refl}
use Rattle.std.proofs.lemmas.List.{get_or_default}
use Rattle.ocfl_tree.specs.{Place.{Text, Place, child_name}, StorageRoot.{StorageRoot, Leaf, dir}}
use Rattle.ocfl_tree.specs.Listing.{kind_of}
use Rattle.ocfl_memory.specs.Internal.Nodes.{leaf_at, with_entry, kept_in}
use Rattle.ocfl_tree.proofs.Lists.{drop_item}

pub leaf_at_item : (root : StorageRoot) (i : ℕ) (e : Place × Leaf) → i < length root → e ≡ get_or root i e → leaf_at root i ≡ e.1
leaf_at_item root i e h is = ap (λ (x : Place × Leaf). x.1) (get_or_default root i ([], dir) e h ∙ sym is)

-- one more of what is kept, read at an index
pub kept_more : (root : StorageRoot) (i : ℕ) (e : Place × Leaf) (d : Place) → i < length root → e ≡ get_or root i e
    → kept_in (drop i root) d ≡ with_entry (child_name d e.0) e.1 (kept_in (drop (i + 1) root) d)
kept_more root i e d h is = ap (λ es. kept_in es d) (drop_item root i e h is)

pub kept_more_child : (root : StorageRoot) (i : ℕ) (e : Place × Leaf) (d : Place) (n : Text) → i < length root → e ≡ get_or root i e → child_name d e.0 ≡ Some n
    → kept_in (drop i root) d ≡ record { name = n; kind = kind_of e.1 } ∷ kept_in (drop (i + 1) root) d
kept_more_child root i e d n h is some = kept_more root i e d h is ∙ ap (λ o. with_entry o e.1 (kept_in (drop (i + 1) root) d)) some

pub set_last : {X : Type 0} (xs : List X) (x y : X) → set (xs ++ x ∷ []) (length xs) y ≡ xs ++ y ∷ []
set_last [] x y = refl
set_last (z ∷ xs) x y = ap (λ ys. z ∷ ys) (set_last xs x y)
