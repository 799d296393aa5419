-- Sorted lists: what is beside its like, and each element once.
use Rattle.std.proofs.Common.{◌≡◌, inl, inr, List, [], ◌∷◌, refl, sym, ◌∙◌, ap, subst, true, false, Bool, cond, ℕ, ◌+◌, ◌≤◌, arith}
use Rattle.std.proofs.lemmas.List.Recursion.{is_count_by}
use Rattle.std.specs.{Prelude.{count_by}, Ordering.{is_lt, ordering_reverse}, Cmp.{IsTotalOrder}}
use Rattle.std.specs.{FinMap.{IsAntisymmetric}, declared.cmp.Ordering.{Ordering}}
use Rattle.std.specs.declared.cmp.Ordering.TheVariants.{Less, Equal, Greater}
use Rattle.ocfl_tree.specs.Ascending.{IsAmong}
use Rattle.ocfl_inventory.specs.Internal.Beside.{hits}
use Rattle.ocfl_tree.proofs.Orders.{true_not_false, below_from_greater}

-- ---- orderings

equal_reversed : (r : Ordering) → r ≡ ordering_reverse r → r ≡ Equal
equal_reversed Less e = cc
equal_reversed Equal e = refl
equal_reversed Greater e = cc

pub equal_itself : {A : Type 0} {cmp : A → A → Ordering} → IsTotalOrder cmp → (x : A) → cmp x x ≡ Equal
equal_itself {cmp = cmp} o x = equal_reversed (cmp x x) (o.antisymm x x)

-- ---- counting by a recursion

abbrev pub tally : {A : Type 0} → (A → Bool) → List A → ℕ
tally p [] = 0
tally p (x ∷ xs) = cond (p x) (1 + tally p xs) (tally p xs)

pub tally_is : {A : Type 0} (p : A → Bool) (xs : List A) → tally p xs ≡ count_by p xs
tally_is p xs = is_count_by (tally p) p refl (λ x ys. refl) xs

module _ {A : Type 0} (p : A → Bool) where
  pub tally_some : (xs : List A) → 1 ≤ tally p xs → (z : A) × (IsAmong xs z × (p z ≡ true))
  tally_some [] h = absurd (omega (arith, h))
  tally_some (x ∷ xs) h = by (p x) refl h (tally_some xs)
    where
      by : (b : Bool) → p x ≡ b → 1 ≤ cond b (1 + tally p xs) (tally p xs) → (1 ≤ tally p xs → (z : A) × (IsAmong xs z × (p z ≡ true))) → (z : A) × (IsAmong (x ∷ xs) z × (p z ≡ true))
      by true e j k = (x, (inl refl, e))
      by false e j k = (let w = k j in (w.0, (inr w.1.0, w.1.1)))

-- ---- lists that do not fall

abbrev pub IsUnder : {A : Type 0} → (A → A → Ordering) → A → List A → Type 0
IsUnder cmp x [] = Unit {0}
IsUnder cmp x (y ∷ ys) = (is_lt (cmp y x) ≡ false) × IsUnder cmp x ys

abbrev pub IsUp : {A : Type 0} → (A → A → Ordering) → List A → Type 0
IsUp cmp [] = Unit {0}
IsUp cmp (x ∷ xs) = IsUnder cmp x xs × IsUp cmp xs

module _ {A : Type 0} (cmp : A → A → Ordering) where
  pub under_each : (x : A) (ys : List A) → IsUnder cmp x ys → (z : A) → IsAmong ys z → is_lt (cmp z x) ≡ false
  under_each x [] h z i = absurd i
  under_each x (y ∷ ys) h z (inl e) = ap (λ w. is_lt (cmp w x)) e ∙ h.0
  under_each x (y ∷ ys) h z (inr i) = under_each x ys h.1 z i

-- a test that an element passes with itself, that only later ones pass, and that each one between
-- passes
pub record IsFront {A : Type 0} (cmp : A → A → Ordering) (test : A → A → Bool) : Type 0 where
  pub itself : (x : A) → test x x ≡ true
  pub later : (x y : A) → test x y ≡ true → is_lt (cmp y x) ≡ false
  pub between : (x y z : A) → is_lt (cmp y x) ≡ false → is_lt (cmp z y) ≡ false → test x z ≡ true → test x y ≡ true

module _ {A : Type 0} {cmp : A → A → Ordering} (o : IsTotalOrder cmp) (exact : IsAntisymmetric cmp) where
  pub both_ways : (x y : A) → is_lt (cmp y x) ≡ false → is_lt (cmp x y) ≡ false → x ≡ y
  both_ways x y h k = by (cmp x y) refl
    where
      by : (r : Ordering) → cmp x y ≡ r → x ≡ y
      by Less e = absurd (true_not_false (sym (ap is_lt e) ∙ k))
      by Equal e = exact x y e
      by Greater e = absurd (true_not_false (sym (ap is_lt (below_from_greater o x y e)) ∙ h))

  module _ {test : A → A → Bool} (front : IsFront cmp test) where
    abbrev IsHit : List A → A → Type 0
    IsHit xs z = IsAmong xs z × (2 ≤ tally (test z) xs)

    pub hit_sound : (xs : List A) (z : A) → IsAmong (hits test xs) z → IsHit xs z
    hit_sound [] z i = absurd i
    hit_sound (x ∷ []) z i = absurd i
    hit_sound (x ∷ y ∷ ys) z i = by (test x y) refl i (hit_sound (y ∷ ys) z)
      where
        more : IsHit (y ∷ ys) z → IsHit (x ∷ y ∷ ys) z
        more w = (inr w.0, count (test z x))
          where
            count : (b : Bool) → 2 ≤ cond b (1 + tally (test z) (y ∷ ys)) (tally (test z) (y ∷ ys))
            count true = let h : 2 ≤ tally (test z) (y ∷ ys) = w.1 in omega arith
            count false = w.1

        here : z ≡ x → test x y ≡ true → IsHit (x ∷ y ∷ ys) z
        here e h = (inl e, rw (e, front.itself x, h) (omega arith))

        by : (b : Bool) → test x y ≡ b → IsAmong (cond b (x ∷ hits test (y ∷ ys)) (hits test (y ∷ ys))) z → (IsAmong (hits test (y ∷ ys)) z → IsHit (y ∷ ys) z) → IsHit (x ∷ y ∷ ys) z
        by true h (inl e) k = here e h
        by true h (inr j) k = more (k j)
        by false h j k = more (k j)

    keep : (x y : A) (ys : List A) (z : A) (b : Bool) → IsAmong (hits test (y ∷ ys)) z → IsAmong (cond b (x ∷ hits test (y ∷ ys)) (hits test (y ∷ ys))) z
    keep x y ys z true j = inr j
    keep x y ys z false j = j

    at_head : (x y : A) (ys : List A) → IsUp cmp (x ∷ y ∷ ys) → 2 ≤ tally (test x) (x ∷ y ∷ ys) → test x y ≡ true
    at_head x y ys up h =
        let self = front.itself x in
        let one : 2 ≤ 1 + tally (test x) (y ∷ ys) = subst (λ b. 2 ≤ cond b (1 + tally (test x) (y ∷ ys)) (tally (test x) (y ∷ ys))) self h in
        by (tally_some (test x) (y ∷ ys) (omega (arith, one)))
      where
        by : (z : A) × (IsAmong (y ∷ ys) z × (test x z ≡ true)) → test x y ≡ true
        by (z, (inl e, t)) = ap (test x) (sym e) ∙ t
        by (z, (inr i, t)) = front.between x y z up.0.0 (under_each cmp y ys up.1.0 z i) t

    pub hit_complete : (xs : List A) (z : A) → IsUp cmp xs → IsHit xs z → IsAmong (hits test xs) z
    hit_complete [] z up w = w.0
    hit_complete (x ∷ []) z up w = absurd (few (test z x) w.1)
      where
        few : (b : Bool) → 2 ≤ cond b (1 + 0) 0 → ⊥
        few true h = omega (arith, h)
        few false h = omega (arith, h)
    hit_complete (x ∷ y ∷ ys) z up w = by w.0 w.1 (hit_complete (y ∷ ys) z up.1)
      where
        head : z ≡ x → 2 ≤ tally (test z) (x ∷ y ∷ ys) → IsAmong (hits test (x ∷ y ∷ ys)) z
        head e h =
            let t : test x y ≡ true = at_head x y ys up (subst (λ v. 2 ≤ tally (test v) (x ∷ y ∷ ys)) e h) in
            rw t (inl e)

        tail : IsAmong (y ∷ ys) z → (b : Bool) → test z x ≡ b → 2 ≤ cond b (1 + tally (test z) (y ∷ ys)) (tally (test z) (y ∷ ys))
            → (IsHit (y ∷ ys) z → IsAmong (hits test (y ∷ ys)) z) → IsAmong (hits test (x ∷ y ∷ ys)) z
        tail i true e h k = head (both_ways z x (front.later z x e) (under_each cmp x (y ∷ ys) up.0 z i)) (subst (λ b. 2 ≤ cond b (1 + tally (test z) (y ∷ ys)) (tally (test z) (y ∷ ys))) (sym e) h)
        tail i false e h k = keep x y ys z (test x y) (k (i, h))

        by : IsAmong (x ∷ y ∷ ys) z → 2 ≤ tally (test z) (x ∷ y ∷ ys) → (IsHit (y ∷ ys) z → IsAmong (hits test (y ∷ ys)) z) → IsAmong (hits test (x ∷ y ∷ ys)) z
        by (inl e) h k = head e h
        by (inr i) h k = tail i (test z x) refl h k
