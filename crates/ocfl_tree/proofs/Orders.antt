-- Laws of ascending lists.
use Rattle.std.proofs.Common.{◌≡◌, ◌↔◌, ◌⊎◌, inl, inr, List, [], ◌∷◌, ◌++◌, refl, sym, ◌∙◌, ap, subst, true, false, Bool, map, filter}
use Rattle.std.specs.{Prelude.{cond, flat_map}, Ordering.{ordering_reverse, match_ordering, is_lt}}
use Rattle.std.specs.declared.cmp.Ordering.{Ordering}
use Rattle.std.specs.{declared.cmp.Ordering.TheVariants.{Less, Equal, Greater}, Cmp.{IsTotalOrder}}
use Rattle.std.specs.Cmp.Lexicographic.{lists_total, nat_list_cmp_total}
use Rattle.std.specs.FinMap.{IsAntisymmetric, slice_cmp-IsAntisymmetric, nat_cmp-IsAntisymmetric}
use Rattle.ocfl_tree.specs.Place.{place_cmp}
use Rattle.ocfl_tree.specs.Ascending.{IsBeforeAll, IsAscending, IsAmong, insert_once, ascending}

pub place_cmp_total : IsTotalOrder place_cmp
place_cmp_total = lists_total nat_list_cmp_total

pub place_cmp_exact : IsAntisymmetric place_cmp
place_cmp_exact = slice_cmp-IsAntisymmetric (slice_cmp-IsAntisymmetric nat_cmp-IsAntisymmetric)

pub true_not_false : true ≡ false → ⊥
true_not_false e = cc

-- what is not `Less` is equal or greater
pub not_less : (r : Ordering) → (r ≡ Less → ⊥) → is_lt r ≡ false
not_less Less h = absurd (h refl)
not_less Equal h = refl
not_less Greater h = refl

pub less_from : (r : Ordering) → is_lt r ≡ true → r ≡ Less
less_from Less e = refl
less_from Equal e = cc
less_from Greater e = cc

less_not_greater : Less ≡ Greater → ⊥
less_not_greater e = cc

module _ {A : Type 0} {cmp : A → A → Ordering} (o : IsTotalOrder cmp) where
  pub not_below_itself : (x : A) → cmp x x ≡ Less → ⊥
  not_below_itself x h = less_not_greater (sym h ∙ o.antisymm x x ∙ ap ordering_reverse h)

  pub not_less_itself : (x : A) → is_lt (cmp x x) ≡ false
  not_less_itself x = not_less (cmp x x) (not_below_itself x)

  pub not_both_below : (x y : A) → cmp x y ≡ Less → cmp y x ≡ Less → ⊥
  not_both_below x y h k = not_below_itself x (o.trans x y x h k)

  pub below_from_greater : (x y : A) → cmp x y ≡ Greater → cmp y x ≡ Less
  below_from_greater x y h = o.antisymm y x ∙ ap ordering_reverse h

module _ {A : Type 0} (cmp : A → A → Ordering) where
  pub before_each : (x : A) (ys : List A) → IsBeforeAll cmp x ys → (z : A) → IsAmong ys z → cmp x z ≡ Less
  before_each x [] h z i = absurd i
  before_each x (y ∷ ys) h z (inl e) = ap (cmp x) e ∙ h.0
  before_each x (y ∷ ys) h z (inr i) = before_each x ys h.1 z i

module _ {A : Type 0} {cmp : A → A → Ordering} (o : IsTotalOrder cmp) (exact : IsAntisymmetric cmp) where
  -- the least of a list is not above the least of another with its elements
  no_lower : (x y : A) (ys : List A) → IsBeforeAll cmp y ys → IsAmong (y ∷ ys) x → cmp x y ≡ Less → ⊥
  no_lower x y ys h (inl e) l = not_below_itself o y (subst (λ z. cmp z y ≡ Less) e l)
  no_lower x y ys h (inr i) l = not_both_below o x y l (before_each cmp y ys h x i)

  tail_among : (x y : A) (xs ys : List A) → x ≡ y → IsBeforeAll cmp x xs → ((z : A) → IsAmong (x ∷ xs) z → IsAmong (y ∷ ys) z) → (z : A) → IsAmong xs z → IsAmong ys z
  tail_among x y xs ys e h among z i = by (among z (inr i))
    where
      by : IsAmong (y ∷ ys) z → IsAmong ys z
      by (inl f) = absurd (not_below_itself o x (subst (λ w. cmp x w ≡ Less) (f ∙ sym e) (before_each cmp x xs h z i)))
      by (inr j) = j

  -- an ascending list is known by its elements
  pub ascending_unique : (xs ys : List A) → IsAscending cmp xs → IsAscending cmp ys → ((z : A) → IsAmong xs z ↔ IsAmong ys z) → xs ≡ ys
  ascending_unique [] [] h k same = refl
  ascending_unique [] (y ∷ ys) h k same = absurd ((same y).1 (inl refl))
  ascending_unique (x ∷ xs) [] h k same = absurd ((same x).0 (inl refl))
  ascending_unique (x ∷ xs) (y ∷ ys) h k same =
      let heads : x ≡ y = first (cmp x y) refl in
      let rest : xs ≡ ys = ascending_unique xs ys h.1 k.1 (λ z.
      (tail_among x y xs ys heads h.0 (λ w. (same w).0) z, tail_among y x ys xs (sym heads) k.0 (λ w. (same w).1) z)) in
      λ i. heads i ∷ rest i
    where
      first : (r : Ordering) → cmp x y ≡ r → x ≡ y
      first Less e = absurd (no_lower x y ys k.0 ((same x).0 (inl refl)) e)
      first Equal e = exact x y e
      first Greater e = absurd (no_lower y x xs h.0 ((same y).1 (inl refl)) (below_from_greater o x y e))

-- ---- what `ascending` gives

module _ {A : Type 0} {cmp : A → A → Ordering} (o : IsTotalOrder cmp) where
  below_all : (x y : A) (ys : List A) → cmp x y ≡ Less → IsBeforeAll cmp y ys → IsBeforeAll cmp x ys
  below_all x y [] e h = tt
  below_all x y (z ∷ ys) e h = (o.trans x y z e h.0, below_all x y ys e h.1)

  before_insert : (z x : A) (ys : List A) → cmp z x ≡ Less → IsBeforeAll cmp z ys → IsBeforeAll cmp z (insert_once cmp x ys)
  before_insert z x [] l h = (l, tt)
  before_insert z x (y ∷ ys) l h = by (cmp x y) (before_insert z x ys l h.1)
    where
      by : (r : Ordering) → IsBeforeAll cmp z (insert_once cmp x ys) → IsBeforeAll cmp z (match_ordering r (x ∷ y ∷ ys) (y ∷ ys) (y ∷ insert_once cmp x ys))
      by Less k = (l, h)
      by Equal k = h
      by Greater k = (h.0, k)

  ascends_insert : (x : A) (ys : List A) → IsAscending cmp ys → IsAscending cmp (insert_once cmp x ys)
  ascends_insert x [] h = (tt, tt)
  ascends_insert x (y ∷ ys) h = by (cmp x y) refl (ascends_insert x ys h.1)
    where
      by : (r : Ordering) → cmp x y ≡ r → IsAscending cmp (insert_once cmp x ys) → IsAscending cmp (match_ordering r (x ∷ y ∷ ys) (y ∷ ys) (y ∷ insert_once cmp x ys))
      by Less e k = ((e, below_all x y ys e h.0), h)
      by Equal e k = h
      by Greater e k = (before_insert y x ys (below_from_greater o x y e) h.0, k)

  pub ascends_ascending : (xs : List A) → IsAscending cmp (ascending cmp xs)
  ascends_ascending [] = tt
  ascends_ascending (x ∷ xs) = ascends_insert x (ascending cmp xs) (ascends_ascending xs)

module _ {A : Type 0} {cmp : A → A → Ordering} (exact : IsAntisymmetric cmp) where
  among_insert : (x z : A) (ys : List A) → IsAmong (x ∷ ys) z ↔ IsAmong (insert_once cmp x ys) z
  among_insert x z [] = (λ i. i, λ i. i)
  among_insert x z (y ∷ ys) = by (cmp x y) refl (among_insert x z ys)
    where
      into : (z ≡ x) ⊎ ((z ≡ y) ⊎ IsAmong ys z) → (IsAmong (x ∷ ys) z → IsAmong (insert_once cmp x ys) z) → IsAmong (y ∷ insert_once cmp x ys) z
      into (inl e) k = inr (k (inl e))
      into (inr (inl e)) k = inl e
      into (inr (inr i)) k = inr (k (inr i))

      back : IsAmong (x ∷ ys) z → IsAmong (x ∷ y ∷ ys) z
      back (inl e) = inl e
      back (inr i) = inr (inr i)

      out : IsAmong (y ∷ insert_once cmp x ys) z → (IsAmong (insert_once cmp x ys) z → IsAmong (x ∷ ys) z) → IsAmong (x ∷ y ∷ ys) z
      out (inl e) k = inr (inl e)
      out (inr i) k = back (k i)

      join : x ≡ y → IsAmong (x ∷ y ∷ ys) z → IsAmong (y ∷ ys) z
      join e (inl f) = inl (f ∙ e)
      join e (inr i) = i

      by : (r : Ordering) → cmp x y ≡ r → (IsAmong (x ∷ ys) z ↔ IsAmong (insert_once cmp x ys) z)
          → IsAmong (x ∷ y ∷ ys) z ↔ IsAmong (match_ordering r (x ∷ y ∷ ys) (y ∷ ys) (y ∷ insert_once cmp x ys)) z
      by Less e k = (λ i. i, λ i. i)
      by Equal e k = (join (exact x y e), λ i. inr i)
      by Greater e k = (λ i. into i k.0, λ i. out i k.1)

  pub among_ascending : (xs : List A) (z : A) → IsAmong xs z ↔ IsAmong (ascending cmp xs) z
  among_ascending [] z = (λ i. i, λ i. i)
  among_ascending (x ∷ xs) z = by (among_ascending xs z) (among_insert x z (ascending cmp xs))
    where
      front : (IsAmong xs z → IsAmong (ascending cmp xs) z) → IsAmong (x ∷ xs) z → IsAmong (x ∷ ascending cmp xs) z
      front k (inl e) = inl e
      front k (inr i) = inr (k i)

      off : (IsAmong (ascending cmp xs) z → IsAmong xs z) → IsAmong (x ∷ ascending cmp xs) z → IsAmong (x ∷ xs) z
      off k (inl e) = inl e
      off k (inr i) = inr (k i)

      by : (IsAmong xs z ↔ IsAmong (ascending cmp xs) z) → (IsAmong (x ∷ ascending cmp xs) z ↔ IsAmong (insert_once cmp x (ascending cmp xs)) z)
          → IsAmong (x ∷ xs) z ↔ IsAmong (insert_once cmp x (ascending cmp xs)) z
      by k l = (λ i. l.0 (front k.0 i), λ i. off k.1 (l.1 i))

-- ---- filters, maps and joined lists

module _ {A : Type 0} (cmp : A → A → Ordering) (test : A → Bool) where
  before_filter : (x : A) (xs : List A) → IsBeforeAll cmp x xs → IsBeforeAll cmp x (filter test xs)
  before_filter x [] h = tt
  before_filter x (y ∷ xs) h = by (test y) (before_filter x xs h.1)
    where
      by : (b : Bool) → IsBeforeAll cmp x (filter test xs) → IsBeforeAll cmp x (cond b (y ∷ filter test xs) (filter test xs))
      by true k = (h.0, k)
      by false k = k

  pub ascends_filter : (xs : List A) → IsAscending cmp xs → IsAscending cmp (filter test xs)
  ascends_filter [] h = tt
  ascends_filter (x ∷ xs) h = by (test x) (ascends_filter xs h.1)
    where
      by : (b : Bool) → IsAscending cmp (filter test xs) → IsAscending cmp (cond b (x ∷ filter test xs) (filter test xs))
      by true k = (before_filter x xs h.0, k)
      by false k = k

module _ {A : Type 0} (test : A → Bool) where
  pub among_filter : (xs : List A) (z : A) → IsAmong xs z → test z ≡ true → IsAmong (filter test xs) z
  among_filter [] z i h = absurd i
  among_filter (x ∷ xs) z i h = by (test x) refl i (λ j. among_filter xs z j h)
    where
      by : (b : Bool) → test x ≡ b → IsAmong (x ∷ xs) z → (IsAmong xs z → IsAmong (filter test xs) z) → IsAmong (cond b (x ∷ filter test xs) (filter test xs)) z
      by true e (inl f) k = inl f
      by true e (inr j) k = inr (k j)
      by false e (inl f) k = absurd (true_not_false (sym h ∙ ap test f ∙ e))
      by false e (inr j) k = k j

  pub among_from_filter : (xs : List A) (z : A) → IsAmong (filter test xs) z → IsAmong xs z × (test z ≡ true)
  among_from_filter [] z i = absurd i
  among_from_filter (x ∷ xs) z i = by (test x) refl i (among_from_filter xs z)
    where
      by : (b : Bool) → test x ≡ b → IsAmong (cond b (x ∷ filter test xs) (filter test xs)) z → (IsAmong (filter test xs) z → IsAmong xs z × (test z ≡ true)) → IsAmong (x ∷ xs) z × (test z ≡ true)
      by true e (inl f) k = (inl f, ap test f ∙ e)
      by true e (inr j) k = (inr (k j).0, (k j).1)
      by false e j k = (inr (k j).0, (k j).1)

module _ {A : Type 0} where
  pub among_left : (xs ys : List A) (z : A) → IsAmong xs z → IsAmong (xs ++ ys) z
  among_left [] ys z i = absurd i
  among_left (x ∷ xs) ys z (inl e) = inl e
  among_left (x ∷ xs) ys z (inr i) = inr (among_left xs ys z i)

  pub among_right : (xs ys : List A) (z : A) → IsAmong ys z → IsAmong (xs ++ ys) z
  among_right [] ys z i = i
  among_right (x ∷ xs) ys z i = inr (among_right xs ys z i)

module _ {A B : Type 0} where
  pub among_map : (f : A → B) (xs : List A) (z : A) → IsAmong xs z → IsAmong (map f xs) (f z)
  among_map f [] z i = absurd i
  among_map f (x ∷ xs) z (inl e) = inl (ap f e)
  among_map f (x ∷ xs) z (inr i) = inr (among_map f xs z i)

  pub among_flat_map : (f : A → List B) (xs : List A) (x : A) (z : B) → IsAmong xs x → IsAmong (f x) z → IsAmong (flat_map f xs) z
  among_flat_map f [] x z i h = absurd i
  among_flat_map f (y ∷ xs) x z (inl e) h = among_left (f y) (flat_map f xs) z (subst (λ w. IsAmong (f w) z) e h)
  among_flat_map f (y ∷ xs) x z (inr i) h = among_right (f y) (flat_map f xs) z (among_flat_map f xs x z i h)
