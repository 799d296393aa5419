-- The way to a place: what is on it, name by name.
use Rattle.std.proofs.Common.{◌≡◌, ◌≢◌, ℕ, ◌+◌, ◌-◌, ◌<◌, ◌≤◌, true, cond, [], ◌∷◌, ◌++◌, length, take, drop, get_or, Option, Some, None, sym, ◌∙◌, ap, refl, arith, append-nil, append_assoc}
use Rattle.std.proofs.lemmas.List.{take_more, take-append-drop}
use Rattle.std.specs.Option.{option_map}
use Rattle.ocfl_tree.specs.Place.{Text, Place, text_eq}
use Rattle.ocfl_tree.specs.StorageRoot.{StorageRoot, Leaf, file, lookup, is_dir_leaf, at}
use Rattle.ocfl_tree.specs.Listing.{kind_of, kind_at}
use Rattle.ocfl_tree.proofs.{Places.{text_eq-Decides}, Trees.{some_not_none, at-append}}

-- ---- what a look at a kind shows

leaf_none : (o : Option Leaf) → option_map kind_of o ≡ None → o ≡ None
leaf_none None h = refl
leaf_none (Some leaf) h = absurd cc

pub nothing_there : (root : StorageRoot) (p : Place) (n : Text) → kind_at root p n ≡ None → at root (p ++ n ∷ []) ≡ None
nothing_there root p n h = leaf_none (at root (p ++ n ∷ [])) h

-- ---- nothing is below nothing

pub nothing_below : (root : StorageRoot) (p : Place) (n : Text) → at root p ≡ None → at root (p ++ n ∷ []) ≡ None
nothing_below root p n h = at-append root p n ∙ ap (λ o. cond (is_dir_leaf o) (lookup root (p ++ n ∷ [])) None) h

pub nothing_far : (root : StorageRoot) (p q : Place) → at root p ≡ None → at root (p ++ q) ≡ None
nothing_far root p [] h = ap (at root) (append-nil p) ∙ h
nothing_far root p (n ∷ q) h = ap (at root) (sym (append_assoc p (n ∷ []) q)) ∙ nothing_far root (p ++ n ∷ []) q (nothing_below root p n h)

-- nothing is at a place of which nothing is at a beginning
pub nothing_beyond : (root s : StorageRoot) (names : Place) (i : ℕ) (n m : Text) → s ≡ root → i < length names → m ≡ get_or names i m → n ≡ m
    → kind_at s (take i names) n ≡ None → at root names ≡ None
nothing_beyond root s names i n m same in' is named none =
    let here : at root (take i names ++ m ∷ []) ≡ None = nothing_there root (take i names) m (ap (λ x. kind_at x (take i names) m) (sym same) ∙ ap (kind_at s (take i names)) (sym named) ∙ none) in
    let item : get_or names i m ≡ m = sym is in
    let more : at root (take (i + 1) names) ≡ None = ap (at root) (take_more names i m in' ∙ ap (λ x. take i names ++ x ∷ []) item) ∙ here in
    ap (at root) (sym (take-append-drop (i + 1) names)) ∙ nothing_far root (take (i + 1) names) (drop (i + 1) names) more

pub no_file : (root : StorageRoot) (d p : Place) (n bytes : Text) → p ≡ d ++ n ∷ [] → at root d ≡ None → at root p ≢ Some (file bytes)
no_file root d p n bytes is none there = some_not_none (file bytes) (sym there ∙ ap (at root) is ∙ nothing_below root d n none)

-- ---- the names of two places

pub shared_more : (xs ys : Place) (i : ℕ) (x y a b : Text) → i < length xs → i < length ys → x ≡ get_or xs i x → y ≡ get_or ys i y → a ≡ y → b ≡ x → text_eq a b ≡ true
    → take i xs ≡ take i ys → (i + 1 ≤ length ys) × (take (i + 1) xs ≡ take (i + 1) ys)
shared_more xs ys i x y a b h k is js ya xb eq same = (
  omega (arith, k),
  take_more xs i x h ∙ ap (λ z. take i xs ++ z ∷ []) (sym is ∙ sym xb ∙ sym ((text_eq-Decides a b).0 eq) ∙ ya ∙ js) ∙ ap (λ zs. zs ++ get_or ys i y ∷ []) same ∙ sym (take_more ys i y k),
)

-- one name less
pub climbed : (p : Place) (count k : ℕ) → k < count → count ≤ length p → take (length p - k) p ≡ take (length p - (k + 1)) p ++ get_or p (length p - (k + 1)) [] ∷ []
climbed p count k a b =
    let less : length p - k ≡ (length p - (k + 1)) + 1 = omega (arith, a, b) in
    ap (λ i. take i p) less ∙ take_more p (length p - (k + 1)) [] (omega (arith, a, b))
