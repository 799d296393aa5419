-- Calls of a store, one after the other.
use Rattle.std.proofs.Common.{List, [], ◌∷◌, ◌++◌, ◌∙◌, ap, ℕ, ◌+◌, ◌≡◌, ◌≤◌, ◌⊎◌, inl, inr, length, filter, refl, sym, subst, arith, append_assoc, append-nil}
use Rattle.std.proofs.lemmas.List.{length-append, nil_from_length}
use Rattle.std.proofs.lemmas.List.Elements.{filter-append}
use Rattle.ocfl_tree.specs.{Ascending.{IsAmong}, Calls.{Closes}, Place.{Place}}
use Rattle.ocfl_tree.specs.{Store.{Store, Did, failed_openings}, declared.store.Opening.{Opening}}
use Rattle.ocfl_tree.proofs.Orders.{among_left, among_right}

-- ---- which listings failed

pub among_either : {A : Type 0} (xs ys : List A) (z : A) → IsAmong (xs ++ ys) z → IsAmong xs z ⊎ IsAmong ys z
among_either [] ys z i = inr i
among_either (x ∷ xs) ys z (inl e) = inl (inl e)
among_either (x ∷ xs) ys z (inr i) = by (among_either xs ys z i)
  where
    by : IsAmong xs z ⊎ IsAmong ys z → IsAmong (x ∷ xs) z ⊎ IsAmong ys z
    by (inl j) = inl (inr j)
    by (inr j) = inr j

among_both : {A : Type 0} (xs ys xs' ys' : List A) → ((z : A) → IsAmong xs z → IsAmong ys z) → ((z : A) → IsAmong xs' z → IsAmong ys' z) → (z : A)
    → IsAmong (xs ++ xs') z → IsAmong (ys ++ ys') z
among_both xs ys xs' ys' h k z i = by (among_either xs xs' z i)
  where
    by : IsAmong xs z ⊎ IsAmong xs' z → IsAmong (ys ++ ys') z
    by (inl j) = among_left ys ys' z (h z j)
    by (inr j) = among_right ys ys' z (k z j)

failed_append : (os os' : List Opening) → failed_openings (os ++ os') ≡ failed_openings os + failed_openings os'
failed_append os os' = ap length (filter-append (λ o. o.failed) os os') ∙ length-append (filter (λ o. o.failed) os) (filter (λ o. o.failed) os')

-- no listing failed if there are no more failures than openings that failed
pub listed_well : (s t : Store) (os : List Opening) (ls : List Place) (f : ℕ) → f ≤ failed_openings os → Did s t os ls f → t.failed_listings ≡ s.failed_listings
listed_well s t os ls f few h =
    let all = h.each_failed in
    let none : length h.failed ≡ 0 = omega (arith, few, all) in
    h.failed_are ∙ ap (λ x. s.failed_listings ++ x) (nil_from_length h.failed none) ∙ append-nil s.failed_listings

just_one : {A : Type 0} (xs : List A) (x : A) → length xs ≡ 1 → ((z : A) → IsAmong xs z → IsAmong (x ∷ []) z) → xs ≡ x ∷ []
just_one [] x one h = absurd (omega (arith, one))
just_one (y ∷ []) x one h = ap (λ z. z ∷ []) (by (h y (inl refl)))
  where
    by : IsAmong (x ∷ []) y → y ≡ x
    by (inl e) = e
    by (inr i) = absurd i
just_one (y ∷ z ∷ xs) x one h = absurd (omega (arith, one))

pub listing_failed : (s t : Store) (p : Place) → Did s t [] (p ∷ []) 1 → t.failed_listings ≡ s.failed_listings ++ p ∷ []
listing_failed s t p h =
    let all : 1 ≡ 0 + length h.failed = h.each_failed in
    let one : length h.failed ≡ 1 = omega (arith, all) in
    h.failed_are ∙ ap (λ x. s.failed_listings ++ x) (just_one h.failed p one h.failed_among)

-- ---- one call after the other

pub did_both : (s t u : Store) (os os' : List Opening) (ls ls' : List Place) (f f' : ℕ) → Did s t os ls f → Did t u os' ls' f' → Did s u (os ++ os') (ls ++ ls') (f + f')
did_both s t u os os' ls ls' f f' h k =
    let one = h.failures_are in
    let two = k.failures_are in
    record {
      tree = k.tree ∙ h.tree;
      openings_are = k.openings_are ∙ ap (λ x. x ++ os') h.openings_are ∙ append_assoc s.openings os os';
      listings_are = k.listings_are ∙ ap (λ x. x ++ ls') h.listings_are ∙ append_assoc s.listings ls ls';
      failures_are = omega (arith, one, two);
      failed = h.failed ++ k.failed;
      failed_are = k.failed_are ∙ ap (λ x. x ++ k.failed) h.failed_are ∙ append_assoc s.failed_listings h.failed k.failed;
      failed_among = among_both h.failed ls k.failed ls' h.failed_among k.failed_among;
      each_failed =
          let those = h.each_failed in
          let these = k.each_failed in
          omega (arith, those, these, failed_append os os', length-append h.failed k.failed);
    }

-- if nothing was done
pub did_nothing : (s : Store) → Did s s [] [] 0
did_nothing s = record {
  tree = refl;
  openings_are = sym (append-nil s.openings);
  listings_are = sym (append-nil s.listings);
  failures_are = omega arith;
  failed = [];
  failed_are = sym (append-nil s.failed_listings);
  failed_among = λ p i. i;
  each_failed = refl;
}

-- after calls with no failure
pub did_then : (s t u : Store) (os os' : List Opening) (ls ls' : List Place) (f : ℕ) → Did s t os ls 0 → Did t u os' ls' f → Did s u (os ++ os') (ls ++ ls') f
did_then s t u os os' ls ls' f h k =
    let same : 0 + f ≡ f = omega arith in
    subst (Did s u (os ++ os') (ls ++ ls')) same (did_both s t u os os' ls ls' 0 f h k)

-- a close adds nothing
pub did_closed : (s t u : Store) (os : List Opening) (ls : List Place) (f : ℕ) → Did s t os ls f → Closes t u → Did s u os ls f
did_closed s t u os ls f h c =
    let before = h.failures_are in
    let after = c.did.failures_are in
    record {
      tree = c.did.tree ∙ h.tree;
      openings_are = c.did.openings_are ∙ append-nil _ ∙ h.openings_are;
      listings_are = c.did.listings_are ∙ append-nil _ ∙ h.listings_are;
      failures_are = omega (arith, before, after);
      failed = h.failed;
      failed_are = listed_well t u [] [] 0 (omega arith) c.did ∙ h.failed_are;
      failed_among = h.failed_among;
      each_failed = h.each_failed;
    }
