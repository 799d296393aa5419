-- Places in order, and one more above the last.
use Rattle.std.proofs.Common.{◌≡◌, ℕ, zero, suc, ◌-◌, ◌+◌, ◌<◌, List, [], ◌∷◌, ◌++◌, Bool, IsTrue, ◌↔◌, Some, length, take, take_all, get_or, All, sym, ap, subst, ◌∙◌, arith}
use Rattle.std.proofs.Props.{props}
use Rattle.std.specs.{Coded.{Unit-prop}, List.{slice_get}, Ordering.{is_lt}}
use Rattle.std.specs.declared.cmp.Ordering.TheVariants.{Less}
use mathlib.Core.Logic.{∥∥₁_elim}
use Rattle.std.proofs.lemmas.List.{take_more}
use Rattle.std.proofs.lemmas.List.Elements.{All-append, All-cons, All-nil, All-head, All-tail}
use Rattle.ocfl_tree.specs.{Place.{Place, place_cmp}, Name.{IsPlace}}
use Rattle.ocfl_tree.specs.Ascending.{IsBeforeAll, IsAscending}
use Rattle.ocfl_tree.proofs.Orders.{less_from, place_cmp_total}
use Rattle.ocfl_separators.specs.Separators.{AreSeparators}

-- ---- one more place

before_more : (x : Place) (ys : List Place) (p : Place) → IsBeforeAll place_cmp x ys → place_cmp x p ≡ Less → IsBeforeAll place_cmp x (ys ++ p ∷ [])
before_more x [] p h l = (l, tt)
before_more x (y ∷ ys) p h l = (h.0, before_more x ys p h.1 l)

before_last : (x : Place) (ys : List Place) (l : Place) → IsBeforeAll place_cmp x (ys ++ l ∷ []) → place_cmp x l ≡ Less
before_last x [] l h = h.0
before_last x (y ∷ ys) l h = before_last x ys l h.1

-- places are in order with one more that is above the last
ascend_more : (ps : List Place) (l p : Place) → IsAscending place_cmp (ps ++ l ∷ []) → place_cmp l p ≡ Less → IsAscending place_cmp ((ps ++ l ∷ []) ++ p ∷ [])
ascend_more [] l p h e = ((e, tt), (tt, tt))
ascend_more (x ∷ ps) l p h e =
    let above : place_cmp x p ≡ Less = place_cmp_total.trans x l p (before_last x ps l h.0) e in
    (before_more x (ps ++ l ∷ []) p h.0 above, ascend_more ps l p h.1 e)

-- and only then
last_below : (ps : List Place) (l p : Place) → IsAscending place_cmp ((ps ++ l ∷ []) ++ p ∷ []) → place_cmp l p ≡ Less
last_below [] l p h = h.0.0
last_below (x ∷ ps) l p h = last_below ps l p h.1

before_other : (x : Place) (ys : List Place) (q p : Place) → IsBeforeAll place_cmp x (ys ++ q ∷ []) → place_cmp q p ≡ Less → IsBeforeAll place_cmp x (ys ++ p ∷ [])
before_other x [] q p h l = (place_cmp_total.trans x q p h.0 l, tt)
before_other x (y ∷ ys) q p h l = (h.0, before_other x ys q p h.1 l)

-- places are in order with another last one that is greater
ascend_other : (ps : List Place) (q p : Place) → IsAscending place_cmp (ps ++ q ∷ []) → place_cmp q p ≡ Less → IsAscending place_cmp (ps ++ p ∷ [])
ascend_other [] q p h l = (tt, tt)
ascend_other (x ∷ ps) q p h l = (before_other x ps q p h.0 l, ascend_other ps q p h.1 l)

-- the test of it
pub above_last : (r : Bool) (qs ps : List Place) (l p : Place) → qs ≡ ps ++ l ∷ [] → r ≡ is_lt (place_cmp l p) → IsAscending place_cmp qs → IsTrue r ↔ IsAscending place_cmp (qs ++ p ∷ [])
above_last r qs ps l p e f h =
    let P : List Place → Type 0 = λ xs. IsAscending place_cmp xs → IsTrue r ↔ IsAscending place_cmp (xs ++ p ∷ []) in
    subst P (sym e) (λ k. (λ t. ascend_more ps l p k (less_from _ (sym f ∙ t)), λ m. f ∙ ap is_lt (last_below ps l p m))) h

get_or_there : (xs : List Place) (i : ℕ) (l : Place) → slice_get xs i ≡ Some l → get_or xs i l ≡ l
get_or_there [] i l e = cc
get_or_there (x ∷ xs) zero l e = cc
get_or_there (x ∷ xs) (suc i) l e = get_or_there xs i l e

-- what is before the last place
pub ends_in : (qs : List Place) (l : Place) → slice_get qs (length qs - 1) ≡ Some l → (ps : List Place) × (qs ≡ ps ++ l ∷ [])
ends_in [] l e = cc
ends_in (x ∷ xs) l e =
    let n : ℕ = length (x ∷ xs) - 1 in
    let within : n < length (x ∷ xs) = omega arith in
    let last = get_or_there (x ∷ xs) n l e in
    (take n (x ∷ xs), sym (take_all (n + 1) (x ∷ xs) (omega arith)) ∙ take_more (x ∷ xs) n l within ∙ ap (λ y. take n (x ∷ xs) ++ y ∷ []) last)

-- ---- the first of some places

before_front : (x : Place) (ys zs : List Place) → IsBeforeAll place_cmp x (ys ++ zs) → IsBeforeAll place_cmp x ys
before_front x [] zs h = tt
before_front x (y ∷ ys) zs h = (h.0, before_front x ys zs h.1)

ascend_front : (xs ys : List Place) → IsAscending place_cmp (xs ++ ys) → IsAscending place_cmp xs
ascend_front [] ys h = tt
ascend_front (x ∷ xs) ys h = (before_front x xs ys h.0, ascend_front xs ys h.1)

names_front : (xs ys : List Place) → All IsPlace (xs ++ ys) → All IsPlace xs
names_front [] ys h = All-nil IsPlace
names_front (x ∷ xs) ys h = All-cons IsPlace x xs (All-head IsPlace x (xs ++ ys) h) (names_front xs ys (All-tail IsPlace x (xs ++ ys) h))

pub AreSeparators-front : (xs ys : List Place) → AreSeparators (xs ++ ys) → AreSeparators xs
AreSeparators-front xs ys h = record { names = names_front xs ys h.names; ascend = ascend_front xs ys h.ascend }

pub names_last : (xs : List Place) (p : Place) → All IsPlace (xs ++ p ∷ []) → IsPlace p
names_last [] p h = All-head IsPlace p [] h
names_last (x ∷ xs) p h = names_last xs p (All-tail IsPlace x (xs ++ p ∷ []) h)

-- ---- separators

pub AreSeparators-push : (ps : List Place) (p : Place) → AreSeparators ps → IsPlace p → IsAscending place_cmp (ps ++ p ∷ []) → AreSeparators (ps ++ p ∷ [])
AreSeparators-push ps p h names ascend = record { names = All-append IsPlace ps (p ∷ []) h.names (All-cons IsPlace p [] names (All-nil IsPlace)); ascend = ascend }

-- what is above a place is a separator after it, and in its stead
pub above_next : (ps qs : List Place) (q p : Place) → qs ≡ ps ++ q ∷ [] → AreSeparators (ps ++ q ∷ []) → IsPlace p → place_cmp q p ≡ Less → AreSeparators (qs ++ p ∷ [])
above_next ps qs q p e h name l = subst (λ xs. AreSeparators (xs ++ p ∷ [])) (sym e) (AreSeparators-push (ps ++ q ∷ []) p h name (ascend_more ps q p h.ascend l))

pub above_other : (ps : List Place) (q p : Place) → AreSeparators (ps ++ q ∷ []) → IsPlace p → place_cmp q p ≡ Less → AreSeparators (ps ++ p ∷ [])
above_other ps q p h name l = AreSeparators-push ps p (AreSeparators-front ps (q ∷ []) h) name (ascend_other ps q p h.ascend l)

pub AreSeparators-nil : AreSeparators []
AreSeparators-nil = record { names = All-nil IsPlace; ascend = tt }

-- ---- the rule has one proof at most

IsBeforeAll-prop : (x : Place) (ys : List Place) → IsProp (IsBeforeAll place_cmp x ys)
IsBeforeAll-prop x [] = Unit-prop
IsBeforeAll-prop x (y ∷ ys) = hlevel (props, IsBeforeAll-prop x ys)

IsAscending-prop : (ps : List Place) → IsProp (IsAscending place_cmp ps)
IsAscending-prop [] = Unit-prop
IsAscending-prop (p ∷ ps) = hlevel (props, IsBeforeAll-prop p ps, IsAscending-prop ps)

AreSeparators-prop : (ps : List Place) → IsProp (AreSeparators ps)
AreSeparators-prop ps = hlevel (props, IsAscending-prop ps)

pub AreSeparators-had : (ps : List Place) → ∥ AreSeparators ps ∥₁ → AreSeparators ps
AreSeparators-had ps h = ∥∥₁_elim h (AreSeparators-prop ps) (λ k. k)
