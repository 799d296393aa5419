-- Levels in order.
use Rattle.std.proofs.Common.{◌≡◌, ◌⊎◌, inl, inr, ℕ, zero, suc, ◌+◌, ◌<◌, ◌≤◌, List, [], ◌∷◌, ◌++◌, refl, sym, ◌∙◌, ap, subst, true, false, Bool, length, take, take_all, get_or, All, arith}
use Rattle.std.proofs.{lemmas.List.{take_more, length-append}, lemmas.Bool.{leb-false}}
use Rattle.std.specs.{Prelude.{cond, nat_le}, Ordering.{ordering_then}}
use Rattle.std.specs.declared.cmp.Ordering.{Ordering}
use Rattle.std.specs.declared.cmp.Ordering.TheVariants.{Less, Equal, Greater}
use Rattle.ocfl_tree.specs.Place.{Place, Text, text_cmp, place_cmp}
use Rattle.ocfl_tree.specs.Ascending.{IsAscending, IsAmong}
use Rattle.ocfl_tree.proofs.Orders.{before_each, among_left, among_right}
use Rattle.ocfl_rules.proofs.BelowLaws.{ascends_append, from_append}
use Rattle.ocfl_split.specs.Splitting.{wider, kept}
use Rattle.ocfl_split.specs.Internal.Directories.{IsBelow, IsLevel, AddsBelow}
use Rattle.ocfl_split.proofs.Entries.{pick_among}

-- of places with equally many names, what is below the lesser is less
pub before_longer : (d e x y : Place) → length d ≡ length e → place_cmp d e ≡ Less → place_cmp (d ++ x) (e ++ y) ≡ Less
before_longer [] [] x y same l = absurd cc
before_longer [] (m ∷ e) x y same l = absurd (omega (arith, same))
before_longer (n ∷ d) [] x y same l = absurd (omega (arith, same))
before_longer (n ∷ d) (m ∷ e) x y same l = by (text_cmp n m) l (before_longer d e x y (omega (arith, same)))
  where
    by : (o : Ordering) → ordering_then o (place_cmp d e) ≡ Less → (place_cmp d e ≡ Less → place_cmp (d ++ x) (e ++ y) ≡ Less) → ordering_then o (place_cmp (d ++ x) (e ++ y)) ≡ Less
    by Less h k = refl
    by Equal h k = k h
    by Greater h k = absurd cc

among_get : (xs : List Place) (i : ℕ) (x : Place) → i < length xs → IsAmong xs (get_or xs i x)
among_get [] i x l = absurd (omega (arith, l))
among_get (y ∷ xs) zero x l = inl refl
among_get (y ∷ xs) (suc i) x l = inr (among_get xs i x (omega (arith, l)))

among_take : (xs : List Place) (i : ℕ) (z : Place) → IsAmong (take i xs) z → IsAmong xs z
among_take [] zero z h = absurd h
among_take [] (suc i) z h = absurd h
among_take (x ∷ xs) zero z h = absurd h
among_take (x ∷ xs) (suc i) z (inl e) = inl e
among_take (x ∷ xs) (suc i) z (inr j) = inr (among_take xs i z j)

-- the first places are below those that follow
earlier_below : (xs : List Place) (i : ℕ) (x z : Place) → IsAscending place_cmp xs → i < length xs → IsAmong (take i xs) z → place_cmp z (get_or xs i x) ≡ Less
earlier_below [] i x z h l j = absurd (omega (arith, l))
earlier_below (y ∷ xs) zero x z h l j = absurd j
earlier_below (y ∷ xs) (suc i) x z h l (inl e) = ap (λ p. place_cmp p (get_or xs i x)) e ∙ before_each place_cmp y xs h.0 (get_or xs i x) (among_get xs i x (omega (arith, l)))
earlier_below (y ∷ xs) (suc i) x z h l (inr j) = earlier_below xs i x z h.1 (omega (arith, l)) j

-- ---- places right below others

pub below_more : (depth : ℕ) (ds : List Place) (i : ℕ) (d : Place) (room : ℕ) (old new : List Place) → IsLevel depth ds → i < length ds → d ≡ get_or ds i d
    → IsBelow (take i ds) old → AddsBelow d room old new → IsBelow (take (i + 1) ds) new
below_more depth ds i d room old new h l is k adds =
    let more : take (i + 1) ds ≡ take i ds ++ d ∷ [] = take_more ds i d l ∙ ap (λ x. take i ds ++ x ∷ []) (sym is) in
    subst (λ xs. IsBelow xs new) (sym more) (subst (IsBelow (take i ds ++ d ∷ [])) (sym adds.added) (record {
      ascend = ascends_append place_cmp old adds.places k.ascend adds.below.ascend apart;
      under = λ z j. found z (from_append old adds.places z j);
    }))
  where
    long : (z : Place) → IsAmong ds z → length z ≡ depth
    long z j = pick_among (λ p. length p ≡ depth) ds h.deep z j

    here : IsAmong ds d
    here = subst (IsAmong ds) (sym is) (among_get ds i d l)

    apart : (x y : Place) → IsAmong old x → IsAmong adds.places y → place_cmp x y ≡ Less
    apart x y j m =
        let a = k.under x j in
        let b = adds.below.under y m in
        let top : b.0 ≡ d = only b.0 b.1 in
        let less : place_cmp a.0 d ≡ Less = ap (place_cmp a.0) is ∙ earlier_below ds i d a.0 h.ascend l a.1 in
        let same : length a.0 ≡ length d = long a.0 (among_take ds i a.0 a.1) ∙ sym (long d here) in
        ap (λ p. place_cmp p y) a.2.1 ∙ ap (place_cmp (a.0 ++ a.2.0 ∷ [])) (b.2.1 ∙ ap (λ p. p ++ b.2.0 ∷ []) top) ∙ before_longer a.0 d (a.2.0 ∷ []) (b.2.0 ∷ []) same less
      where
        only : (z : Place) → IsAmong (d ∷ []) z → z ≡ d
        only z (inl e) = e
        only z (inr j) = absurd j

    found : (z : Place) → IsAmong old z ⊎ IsAmong adds.places z → (e : Place) × IsAmong (take i ds ++ d ∷ []) e × ((n : Text) × (z ≡ e ++ n ∷ []))
    found z (inl j) = let a = k.under z j in (a.0, among_left (take i ds) (d ∷ []) a.0 a.1, a.2)
    found z (inr j) = let b = adds.below.under z j in (b.0, among_right (take i ds) (d ∷ []) b.0 b.1, b.2)

-- ---- a whole level

pub all_from : (P : Place → Type 0) (xs : List Place) → ((z : Place) → IsAmong xs z → P z) → All P xs
all_from P [] h k d l = absurd (omega (arith, l))
all_from P (x ∷ xs) h zero d l = h x (inl refl)
all_from P (x ∷ xs) h (suc k) d l = all_from P xs (λ z j. h z (inr j)) k d (omega (arith, l))

pub next_level_is : (depth : ℕ) (ds : List Place) (i : ℕ) (next : List Place) → length ds ≤ i → IsLevel depth ds → IsBelow (take i ds) next → length next ≤ 1000000 → IsLevel (depth + 1) next
next_level_is depth ds i next l h k few = record {
  ascend = k.ascend;
  deep = all_from (λ p. length p ≡ depth + 1) next (λ z j.
      let a = k.under z j in
      let long : length a.0 ≡ depth = pick_among (λ p. length p ≡ depth) ds h.deep a.0 (subst (λ xs. IsAmong xs a.0) (take_all i ds l) a.1) in
      ap length a.2.1 ∙ omega (arith, length-append a.0 (a.2.0 ∷ []), long));
  few = few;
}

pub first_level_is : (ds : List Place) → ds ≡ [] ∷ [] → IsLevel 0 ds
first_level_is ds e = subst (IsLevel 0) (sym e) (record { ascend = (tt, tt); deep = all_from (λ p. length p ≡ 0) ([] ∷ []) (λ z j. top z j); few = omega arith })
  where
    top : (z : Place) → IsAmong ([] ∷ []) z → length z ≡ 0
    top z (inl f) = ap length f
    top z (inr j) = absurd j

-- ---- the levels that are in memory

-- what is kept of the levels above one
abbrev pub IsNoneOrLevel : List Place → Type 0
IsNoneOrLevel above = (length above ≡ 0) ⊎ ((depth : ℕ) × IsLevel depth above)

pub wider_is : (depth : ℕ) (above ds : List Place) → IsNoneOrLevel above → IsLevel depth ds → (n : ℕ) × IsLevel n (wider above ds)
wider_is depth above ds k h = by (nat_le (length above) (length ds)) refl k
  where
    by : (b : Bool) → nat_le (length above) (length ds) ≡ b → IsNoneOrLevel above → (n : ℕ) × IsLevel n (cond b ds above)
    by true e m = (depth, h)
    by false e (inl none) = let more = leb-false (length above) (length ds) e in absurd (omega (arith, none, more))
    by false e (inr m) = m

pub kept_is : (above ds : List Place) → ((n : ℕ) × IsLevel n above) → IsNoneOrLevel (kept above ds)
kept_is above ds h = by (nat_le (length above) (length ds))
  where
    by : (b : Bool) → IsNoneOrLevel (cond b [] above)
    by true = inl refl
    by false = inr h
