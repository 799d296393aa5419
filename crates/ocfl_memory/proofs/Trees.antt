-- What lies where in a tree, and after a put or a removal.
use Rattle.std.proofs.Common.{◌≡◌, ◌≢◌, Bool, true, false, cond, not, [], ◌∷◌, ◌++◌, Option, Some, None, sym, ◌∙◌, ap, refl, append_assoc, filter}
use Rattle.std.proofs.{lemmas.Bool.{true_from_ne_false}, lemmas.List.{same_from_push}}
use Rattle.ocfl_tree.specs.Place.{Text, Place, place_eq, begins}
use Rattle.ocfl_tree.specs.StorageRoot.{StorageRoot, Leaf, dir, lookup, is_dir_leaf, at_below, at}
use Rattle.ocfl_memory.specs.MemTree.{parent, after_put, after_removal}
use Rattle.ocfl_memory.specs.Internal.Nodes.{stands_at, AreOnce}
use Rattle.ocfl_tree.proofs.Places.{place_eq-Decides, differ, begins-longer}
use Rattle.ocfl_tree.proofs.Lists.{lookup_here, lookup_other}
use Rattle.ocfl_tree.proofs.Trees.{dir_from_leaf, some_not_none, at-append, at_in_dir}

-- every place but the root is right below another
pub front_last : (n : Text) (p : Place) → (d : Place) × (m : Text) × (n ∷ p ≡ d ++ m ∷ [])
front_last n [] = ([], n, refl)
front_last n (k ∷ p) = let e = front_last k p in (n ∷ e.0, e.1, ap (λ q. n ∷ q) e.2)

pub parent-append : (d : Place) (n : Text) → parent (d ++ n ∷ []) ≡ d
parent-append [] n = refl
parent-append (m ∷ []) n = refl
parent-append (m ∷ k ∷ d) n = ap (λ q. m ∷ q) (parent-append (k ∷ d) n)

pub stands_at-append : (root : StorageRoot) (d : Place) (n : Text) → stands_at root (d ++ n ∷ []) ≡ lookup root (d ++ n ∷ [])
stands_at-append root [] n = refl
stands_at-append root (m ∷ d) n = refl

-- each place that is kept is in a directory
abbrev pub IsRooted : StorageRoot → Type 0
IsRooted root = (p : Place) → at root p ≡ stands_at root p

pub dir_above : (root : StorageRoot) (d : Place) (n : Text) (x : Leaf) → IsRooted root → lookup root (d ++ n ∷ []) ≡ Some x → at root d ≡ Some dir
dir_above root d n x rooted is = dir_from_leaf (at root d) (true_from_ne_false (is_dir_leaf (at root d))
    (λ e. some_not_none x (sym (sym (ap (λ b. cond b (lookup root (d ++ n ∷ [])) None) e) ∙ sym (at-append root d n) ∙ rooted (d ++ n ∷ []) ∙ stands_at-append root d n ∙ is))))

pub rooted_from_above : (root : StorageRoot) → ((d : Place) (n : Text) (x : Leaf) → lookup root (d ++ n ∷ []) ≡ Some x → at root d ≡ Some dir) → IsRooted root
rooted_from_above root above [] = refl
rooted_from_above root above (n ∷ p) =
    let e = front_last n p in
    ap (at root) e.2 ∙ at-append root e.0 e.1 ∙ by e.0 e.1 (lookup root (e.0 ++ e.1 ∷ [])) refl ∙ ap (lookup root) (sym e.2)
  where
    by : (d : Place) (m : Text) (o : Option Leaf) → lookup root (d ++ m ∷ []) ≡ o → cond (is_dir_leaf (at root d)) (lookup root (d ++ m ∷ [])) None ≡ lookup root (d ++ m ∷ [])
    by d m None is = none (is_dir_leaf (at root d)) (lookup root (d ++ m ∷ [])) is
      where
        none : (b : Bool) (o : Option Leaf) → o ≡ None → cond b o None ≡ o
        none true o e = refl
        none false o e = sym e
    by d m (Some x) is = ap (λ o. cond (is_dir_leaf o) (lookup root (d ++ m ∷ [])) None) (above d m x is)

-- ---- a put

pub lookup_push_some : (root : StorageRoot) (p q : Place) (x y : Leaf) → lookup root q ≡ Some y → lookup (root ++ (p, x) ∷ []) q ≡ Some y
lookup_push_some [] p q x y h = absurd (some_not_none y (sym h))
lookup_push_some (e ∷ root) p q x y h = by (place_eq e.0 q) h (lookup_push_some root p q x y)
  where
    by : (b : Bool) → cond b (Some e.1) (lookup root q) ≡ Some y → (lookup root q ≡ Some y → lookup (root ++ (p, x) ∷ []) q ≡ Some y) → cond b (Some e.1) (lookup (root ++ (p, x) ∷ []) q) ≡ Some y
    by true k more = k
    by false k more = more k

pub lookup_push_here : (root : StorageRoot) (p : Place) (x : Leaf) → lookup root p ≡ None → lookup (root ++ (p, x) ∷ []) p ≡ Some x
lookup_push_here [] p x h = lookup_here [] (p, x) p refl
lookup_push_here (e ∷ root) p x h = by (place_eq e.0 p) h (lookup_push_here root p x)
  where
    by : (b : Bool) → cond b (Some e.1) (lookup root p) ≡ None → (lookup root p ≡ None → lookup (root ++ (p, x) ∷ []) p ≡ Some x) → cond b (Some e.1) (lookup (root ++ (p, x) ∷ []) p) ≡ Some x
    by true k more = absurd (some_not_none e.1 k)
    by false k more = more k

pub lookup_push_other : (root : StorageRoot) (p q : Place) (x : Leaf) → p ≢ q → lookup (root ++ (p, x) ∷ []) q ≡ lookup root q
lookup_push_other [] p q x apart = lookup_other [] (p, x) q apart
lookup_push_other (e ∷ root) p q x apart = ap (λ o. cond (place_eq e.0 q) (Some e.1) o) (lookup_push_other root p q x apart)

at_below_push : (root : StorageRoot) (p : Place) (x y : Leaf) (front : Place) (n : Text) (q : Place) → at_below root front n q ≡ Some y → at_below (root ++ (p, x) ∷ []) front n q ≡ Some y
at_below_push root p x y front n [] h = lookup_push_some root p (front ++ n ∷ []) x y h
at_below_push root p x y front n (m ∷ q) h = by (is_dir_leaf (lookup root (front ++ n ∷ []))) refl h (at_below_push root p x y (front ++ n ∷ []) m q)
  where
    new : StorageRoot
    new = root ++ (p, x) ∷ []

    by : (b : Bool) → is_dir_leaf (lookup root (front ++ n ∷ [])) ≡ b → cond b (at_below root (front ++ n ∷ []) m q) None ≡ Some y
        → (at_below root (front ++ n ∷ []) m q ≡ Some y → at_below (root ++ (p, x) ∷ []) (front ++ n ∷ []) m q ≡ Some y)
        → cond (is_dir_leaf (lookup (root ++ (p, x) ∷ []) (front ++ n ∷ []))) (at_below (root ++ (p, x) ∷ []) (front ++ n ∷ []) m q) None ≡ Some y
    by true e k more =
        ap (λ o. cond (is_dir_leaf o) (at_below (root ++ (p, x) ∷ []) (front ++ n ∷ []) m q) None)
        (lookup_push_some root p (front ++ n ∷ []) x dir (dir_from_leaf _ e)) ∙ more k
    by false e k more = absurd (some_not_none y (sym k))

pub at_push : (root : StorageRoot) (p q : Place) (x y : Leaf) → at root q ≡ Some y → at (root ++ (p, x) ∷ []) q ≡ Some y
at_push root p [] x y h = h
at_push root p (n ∷ q) x y h = at_below_push root p x y [] n q h

pub rooted_push : (root : StorageRoot) (d : Place) (n : Text) (x : Leaf) → IsRooted root → at root d ≡ Some dir → IsRooted (root ++ (d ++ n ∷ [], x) ∷ [])
rooted_push root d n x rooted is = rooted_from_above (root ++ (d ++ n ∷ [], x) ∷ []) (λ e m y there. above e m y there (place_eq (d ++ n ∷ []) (e ++ m ∷ [])) refl)
  where
    above : (e : Place) (m : Text) (y : Leaf) → lookup (root ++ (d ++ n ∷ [], x) ∷ []) (e ++ m ∷ []) ≡ Some y → (b : Bool)
        → place_eq (d ++ n ∷ []) (e ++ m ∷ []) ≡ b → at (root ++ (d ++ n ∷ [], x) ∷ []) e ≡ Some dir
    above e m y there true t =
        let same = same_from_push d e n m ((place_eq-Decides (d ++ n ∷ []) (e ++ m ∷ [])).0 t) in
        at_push root (d ++ n ∷ []) e x dir (ap (at root) (sym same.0) ∙ is)
    above e m y there false t =
        let old = sym (lookup_push_other root (d ++ n ∷ []) (e ++ m ∷ []) x (differ _ _ (place_eq-Decides (d ++ n ∷ []) (e ++ m ∷ [])) t)) ∙ there in
        at_push root (d ++ n ∷ []) e x dir (dir_above root e m y rooted old)

pub put_leaves : (root : StorageRoot) (d : Place) (n : Text) (x : Leaf) → IsRooted root → at root d ≡ Some dir → at root (d ++ n ∷ []) ≡ None → (q : Place)
    → at (root ++ (d ++ n ∷ [], x) ∷ []) q ≡ after_put root (d ++ n ∷ []) x q
put_leaves root d n x rooted is free q = by (place_eq q (d ++ n ∷ [])) refl
  where
    new : StorageRoot
    new = root ++ (d ++ n ∷ [], x) ∷ []

    none : lookup root (d ++ n ∷ []) ≡ None
    none = sym (at_in_dir root d n is) ∙ free

    apart : (q : Place) → d ++ n ∷ [] ≢ q → at (root ++ (d ++ n ∷ [], x) ∷ []) q ≡ at root q
    apart [] h = refl
    apart (m ∷ q) h = rooted_push root d n x rooted is (m ∷ q) ∙ lookup_push_other root (d ++ n ∷ []) (m ∷ q) x h ∙ sym (rooted (m ∷ q))

    by : (b : Bool) → place_eq q (d ++ n ∷ []) ≡ b → at (root ++ (d ++ n ∷ [], x) ∷ []) q ≡ cond b (Some x) (at root q)
    by true e =
        ap (at (root ++ (d ++ n ∷ [], x) ∷ [])) ((place_eq-Decides q (d ++ n ∷ [])).0 e) ∙ rooted_push root d n x rooted is (d ++ n ∷ [])
        ∙ stands_at-append (root ++ (d ++ n ∷ [], x) ∷ []) d n ∙ lookup_push_here root (d ++ n ∷ []) x none
    by false e = apart q (λ same. differ _ _ (place_eq-Decides q (d ++ n ∷ [])) e (sym same))

pub once_push : (root : StorageRoot) (p : Place) (x : Leaf) → lookup root p ≡ None → AreOnce root → AreOnce (root ++ (p, x) ∷ [])
once_push [] p x none h = (refl, tt)
once_push (e ∷ root) p x none h =
    let apart : e.0 ≢ p = λ is. some_not_none e.1 (sym (lookup_here root e p is) ∙ none) in
    let rest : lookup root p ≡ None = sym (lookup_other root e p apart) ∙ none in
    (lookup_push_other root p e.0 x (λ is. apart (sym is)) ∙ h.0, once_push root p x rest h.1)

-- ---- a removal

abbrev pub is_left : Place → Place × Leaf → Bool
is_left p e = not (begins p e.0)

pub lookup_left : (root : StorageRoot) (p q : Place) → lookup (filter (is_left p) root) q ≡ cond (begins p q) None (lookup root q)
lookup_left [] p q = none (begins p q)
  where
    none : (b : Bool) → ◌≡◌ {A = Option Leaf} None (cond b None None)
    none true = refl
    none false = refl
lookup_left (e ∷ root) p q = by (begins p e.0) (place_eq e.0 q) refl refl (lookup_left root p q)
  where
    by : (b c : Bool) → begins p e.0 ≡ b → place_eq e.0 q ≡ c → lookup (filter (is_left p) root) q ≡ cond (begins p q) None (lookup root q)
        → lookup (cond (not b) (e ∷ filter (is_left p) root) (filter (is_left p) root)) q ≡ cond (begins p q) None (cond c (Some e.1) (lookup root q))
    by true true h k more =
        let here : begins p q ≡ true = ap (begins p) (sym ((place_eq-Decides e.0 q).0 k)) ∙ h in
        more ∙ ap (λ b. cond b None (lookup root q)) here ∙ sym (ap (λ b. cond b None (Some e.1)) here)
    by true false h k more = more
    by false true h k more =
        let here : begins p q ≡ false = ap (begins p) (sym ((place_eq-Decides e.0 q).0 k)) ∙ h in
        ap (λ b. cond b (Some e.1) (lookup (filter (is_left p) root) q)) k ∙ sym (ap (λ b. cond b None (Some e.1)) here)
    by false false h k more = ap (λ b. cond b (Some e.1) (lookup (filter (is_left p) root) q)) k ∙ more

at_below_left : (root : StorageRoot) (p front : Place) (n : Text) (q : Place) → at_below (filter (is_left p) root) front n q ≡ cond (begins p (front ++ n ∷ q)) None (at_below root front n q)
at_below_left root p front n [] = lookup_left root p (front ++ n ∷ [])
at_below_left root p front n (m ∷ q) =
    ap (λ o. cond (is_dir_leaf o) (at_below (filter (is_left p) root) (front ++ n ∷ []) m q) None) (lookup_left root p (front ++ n ∷ []))
    ∙ by (begins p (front ++ n ∷ [])) refl (at_below_left root p (front ++ n ∷ []) m q ∙ ap (λ r. cond (begins p r) None (at_below root (front ++ n ∷ []) m q)) (append_assoc front (n ∷ []) (m ∷ q)))
  where
    both : (b c : Bool) (o : Option Leaf) → cond b (cond c None o) None ≡ cond c None (cond b o None)
    both true c o = refl
    both false true o = refl
    both false false o = refl

    by : (b : Bool) → begins p (front ++ n ∷ []) ≡ b → at_below (filter (is_left p) root) (front ++ n ∷ []) m q ≡ cond (begins p (front ++ n ∷ m ∷ q)) None (at_below root (front ++ n ∷ []) m q)
        → cond (is_dir_leaf (cond b None (lookup root (front ++ n ∷ [])))) (at_below (filter (is_left p) root) (front ++ n ∷ []) m q) None
        ≡ cond (begins p (front ++ n ∷ m ∷ q)) None (cond (is_dir_leaf (lookup root (front ++ n ∷ []))) (at_below root (front ++ n ∷ []) m q) None)
    by true h more =
        let here : begins p (front ++ n ∷ m ∷ q) ≡ true = ap (begins p) (sym (append_assoc front (n ∷ []) (m ∷ q))) ∙ begins-longer p (front ++ n ∷ []) (m ∷ q) h in
        sym (ap (λ b. cond b None (cond (is_dir_leaf (lookup root (front ++ n ∷ []))) (at_below root (front ++ n ∷ []) m q) None)) here)
    by false h more = ap (λ o. cond (is_dir_leaf (lookup root (front ++ n ∷ []))) o None) more ∙ both (is_dir_leaf (lookup root (front ++ n ∷ []))) _ _

-- what a removal leaves; the root is never taken away
pub removal_leaves : (root : StorageRoot) (p : Place) → p ≢ [] → (q : Place) → at (filter (is_left p) root) q ≡ after_removal root p q
removal_leaves root [] h q = absurd (h refl)
removal_leaves root (k ∷ p) h [] = refl
removal_leaves root (k ∷ p) h (n ∷ q) = at_below_left root (k ∷ p) [] n q

pub rooted_left : (root : StorageRoot) (p : Place) → p ≢ [] → IsRooted root → IsRooted (filter (is_left p) root)
rooted_left root p h rooted = rooted_from_above (filter (is_left p) root) (λ d n x there. above d n x (begins p (d ++ n ∷ [])) (begins p d) refl refl (sym (lookup_left root p (d ++ n ∷ [])) ∙ there))
  where
    above : (d : Place) (n : Text) (x : Leaf) (b c : Bool) → begins p (d ++ n ∷ []) ≡ b → begins p d ≡ c
        → cond (begins p (d ++ n ∷ [])) None (lookup root (d ++ n ∷ [])) ≡ Some x → at (filter (is_left p) root) d ≡ Some dir
    above d n x true c e f there = absurd (some_not_none x (sym (sym (ap (λ b. cond b None (lookup root (d ++ n ∷ []))) e) ∙ there)))
    above d n x false true e f there = let longer = begins-longer p d (n ∷ []) f in absurd cc
    above d n x false false e f there =
        let old = sym (ap (λ b. cond b None (lookup root (d ++ n ∷ []))) e) ∙ there in
        removal_leaves root p h d ∙ ap (λ b. cond b None (at root d)) f ∙ dir_above root d n x rooted old

pub once_left : (root : StorageRoot) (p : Place) → AreOnce root → AreOnce (filter (is_left p) root)
once_left [] p h = tt
once_left (e ∷ root) p h = by (begins p e.0) refl (once_left root p h.1)
  where
    by : (b : Bool) → begins p e.0 ≡ b → AreOnce (filter (is_left p) root) → AreOnce (cond (not b) (e ∷ filter (is_left p) root) (filter (is_left p) root))
    by true k more = more
    by false k more = (lookup_left root p e.0 ∙ ap (λ b. cond b None (lookup root e.0)) k ∙ h.0, more)
