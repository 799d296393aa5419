-- What lies where in a tree, and after a put or a removal.
use Rattle.std.proofs.Common.{◌≡◌, ◌≢◌, Bool, true, false, cond, [], ◌∷◌, ◌++◌, Option, Some, None, ◌∙◌, ap, refl, append_assoc}
use Rattle.ocfl_tree.specs.Place.{Text, Place}
use Rattle.ocfl_tree.specs.StorageRoot.{StorageRoot, Leaf, file, dir, other, lookup, is_dir_leaf, at_below, at}

pub some_not_none : {A : Type 0} (x : A) → Some x ≢ None
some_not_none x e = cc

pub dir_from_leaf : (leaf : Option Leaf) → is_dir_leaf leaf ≡ true → leaf ≡ Some dir
dir_from_leaf None h = absurd cc
dir_from_leaf (Some (file bytes)) h = absurd cc
dir_from_leaf (Some dir) h = refl
dir_from_leaf (Some other) h = absurd cc

-- what is right below a directory is what is looked up there
at_below-append : (root : StorageRoot) (front : Place) (n : Text) (p : Place) (m : Text)
    → at_below root front n (p ++ m ∷ []) ≡ cond (is_dir_leaf (at_below root front n p)) (lookup root (front ++ n ∷ (p ++ m ∷ []))) None
at_below-append root front n [] m = ap (λ q. cond (is_dir_leaf (lookup root (front ++ n ∷ []))) (lookup root q) None) (append_assoc front (n ∷ []) (m ∷ []))
at_below-append root front n (k ∷ p) m = by (is_dir_leaf (lookup root (front ++ n ∷ []))) (at_below-append root (front ++ n ∷ []) k p m)
  where
    by : (b : Bool) → at_below root (front ++ n ∷ []) k (p ++ m ∷ []) ≡ cond (is_dir_leaf (at_below root (front ++ n ∷ []) k p)) (lookup root ((front ++ n ∷ []) ++ k ∷ (p ++ m ∷ []))) None
        → cond b (at_below root (front ++ n ∷ []) k (p ++ m ∷ [])) None ≡ cond (is_dir_leaf (cond b (at_below root (front ++ n ∷ []) k p) None)) (lookup root (front ++ n ∷ k ∷ (p ++ m ∷ []))) None
    by true more = more ∙ ap (λ q. cond (is_dir_leaf (at_below root (front ++ n ∷ []) k p)) (lookup root q) None) (append_assoc front (n ∷ []) (k ∷ (p ++ m ∷ [])))
    by false more = refl

pub at-append : (root : StorageRoot) (d : Place) (n : Text) → at root (d ++ n ∷ []) ≡ cond (is_dir_leaf (at root d)) (lookup root (d ++ n ∷ [])) None
at-append root [] n = refl
at-append root (m ∷ d) n = at_below-append root [] m d n

pub at_in_dir : (root : StorageRoot) (d : Place) (n : Text) → at root d ≡ Some dir → at root (d ++ n ∷ []) ≡ lookup root (d ++ n ∷ [])
at_in_dir root d n h = at-append root d n ∙ ap (λ o. cond (is_dir_leaf o) (lookup root (d ++ n ∷ [])) None) h
