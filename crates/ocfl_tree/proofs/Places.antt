-- Texts and places, and where one begins with another.
use Rattle.std.proofs.Common.{◌≡◌, ◌≢◌, Bool, true, false, cond, [], ◌∷◌, ◌++◌, Option, Some, None, sym, ◌∙◌, ap, refl, nat_eq, ◌&&◌}
use Rattle.std.proofs.lemmas.Slice.Eq.{slice_eq-Decides, bytes_eq-Decides}
use Rattle.std.specs.{Bool.{Decides}, Cmp.{IsTotalOrder}}
use Rattle.std.specs.Cmp.Lexicographic.{pointwise, slice_cmp, lists_ties, texts_ties, nat_list_cmp_total}
use Rattle.std.specs.FinMap.{IsAntisymmetric, slice_cmp-IsAntisymmetric, nat_cmp-IsAntisymmetric}
use Rattle.std.specs.Ordering.{nat_cmp}
use Rattle.ocfl_tree.specs.Place.{Text, Place, text_cmp, text_eq, place_eq, begins, child_name}

pub text_eq-Decides : (a b : Text) → Decides (text_eq a b) (a ≡ b)
text_eq-Decides a b = (λ h. (bytes_eq-Decides a b).0 (texts_ties a b ∙ h), λ e. sym (texts_ties a b) ∙ (bytes_eq-Decides a b).1 e)

pub place_eq-Decides : (p q : Place) → Decides (place_eq p q) (p ≡ q)
place_eq-Decides p q =
    let d = slice_eq-Decides bytes_eq-Decides p q (pointwise (pointwise nat_eq) p q) refl in
    let e = lists_ties (slice_cmp nat_cmp) texts_ties p q in
    (λ h. d.0 (e ∙ h), λ s. sym e ∙ d.1 s)

-- what `==` of places computes
pub place_eq-pointwise : (p q : Place) → pointwise (pointwise nat_eq) p q ≡ place_eq p q
place_eq-pointwise p q = lists_ties (slice_cmp nat_cmp) texts_ties p q

pub path_eq-Decides : (a b : Place) → Decides (pointwise (pointwise nat_eq) a b) (a ≡ b)
path_eq-Decides a b = slice_eq-Decides bytes_eq-Decides a b (pointwise (pointwise nat_eq) a b) refl

pub text_cmp_exact : IsAntisymmetric text_cmp
text_cmp_exact = slice_cmp-IsAntisymmetric nat_cmp-IsAntisymmetric

pub text_cmp_total : IsTotalOrder text_cmp
text_cmp_total = nat_list_cmp_total

pub text_eq-same : (a : Text) → text_eq a a ≡ true
text_eq-same a = (text_eq-Decides a a).1 refl

pub place_eq-same : (p : Place) → place_eq p p ≡ true
place_eq-same p = (place_eq-Decides p p).1 refl

pub not_decided : (b : Bool) (P : Type 0) → Decides b P → (P → ⊥) → b ≡ false
not_decided true P d h = absurd (h (d.0 refl))
not_decided false P d h = refl

pub differ : (b : Bool) (P : Type 0) → Decides b P → b ≡ false → P → ⊥
differ true P d e h = cc
differ false P d e h = let t = d.1 h in cc

pub text_eq_turns : (n m : Text) → text_eq n m ≡ text_eq m n
text_eq_turns n m = by (text_eq n m) refl (text_eq m n) refl
  where
    by : (a : Bool) → text_eq n m ≡ a → (b : Bool) → text_eq m n ≡ b → a ≡ b
    by true e true f = refl
    by false e false f = refl
    by true e false f = absurd (differ _ _ (text_eq-Decides m n) f (sym ((text_eq-Decides n m).0 e)))
    by false e true f = absurd (differ _ _ (text_eq-Decides n m) e (sym ((text_eq-Decides m n).0 f)))

-- a place right below another
pub child_name-append : (d : Place) (n : Text) → child_name d (d ++ n ∷ []) ≡ Some n
child_name-append [] n = refl
child_name-append (m ∷ d) n = ap (λ b. cond b (child_name d (d ++ n ∷ [])) None) (text_eq-same m) ∙ child_name-append d n

pub append-child_name : (d p : Place) (n : Text) → child_name d p ≡ Some n → p ≡ d ++ n ∷ []
append-child_name [] [] n e = absurd cc
append-child_name [] (m ∷ []) n e = let s : m ≡ n = cc in ap (λ x. x ∷ []) s
append-child_name [] (m ∷ k ∷ p) n e = absurd cc
append-child_name (m ∷ d) [] n e = absurd cc
append-child_name (m ∷ d) (k ∷ p) n e = by (text_eq m k) refl e (append-child_name d p n)
  where
    by : (b : Bool) → text_eq m k ≡ b → cond b (child_name d p) None ≡ Some n → (child_name d p ≡ Some n → p ≡ d ++ n ∷ []) → k ∷ p ≡ m ∷ (d ++ n ∷ [])
    by true t h more = let s : m ≡ k = (text_eq-Decides m k).0 t in rw (s, more h) refl
    by false t h more = absurd cc

pub no_child_name : (d p : Place) → ((n : Text) → p ≢ d ++ n ∷ []) → child_name d p ≡ None
no_child_name d p h = by (child_name d p) refl
  where
    by : (o : Option Text) → child_name d p ≡ o → o ≡ None
    by None e = refl
    by (Some n) e = absurd (h n (append-child_name d p n e))

-- what a place begins with
pub begins-itself : (p : Place) → begins p p ≡ true
begins-itself [] = refl
begins-itself (n ∷ p) = ap (λ b. b && begins p p) (text_eq-same n) ∙ begins-itself p

pub begins-longer : (p q r : Place) → begins p q ≡ true → begins p (q ++ r) ≡ true
begins-longer [] q r h = refl
begins-longer (n ∷ p) [] r h = absurd cc
begins-longer (n ∷ p) (m ∷ q) r h = by (text_eq n m) h (begins-longer p q r)
  where
    by : (b : Bool) → (b && begins p q) ≡ true → (begins p q ≡ true → begins p (q ++ r) ≡ true) → (b && begins p (q ++ r)) ≡ true
    by true k more = more k
    by false k more = absurd cc
