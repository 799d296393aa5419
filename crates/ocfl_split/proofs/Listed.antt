-- Levels in order, and each directory listed once.
use Rattle.std.proofs.Common.{◌≡◌, ◌≢◌, ◌⊎◌, inl, inr, ℕ, zero, suc, ◌-◌, ◌≤◌, List, [], ◌∷◌, ◌++◌, refl, sym, ◌∙◌, ap, subst, true, false, Bool, Some, None, length, arith}
use Rattle.std.proofs.{lemmas.List.{length-append}, lemmas.List.Kept.{AllPairs-cons}}
use Rattle.std.specs.Prelude.{cond, ◌||◌, ◌==◌, nat_lt, nat_le, ⊤, AllPairs}
use Rattle.std.specs.{Option.{option_map_or}, declared.cmp.Ordering.TheVariants.{Less}}
use Rattle.ocfl_tree.specs.{Place.{Text, Place, place_cmp}, Ascending.{IsAmong, IsAscending}}
use Rattle.ocfl_tree.specs.StorageRoot.{StorageRoot}
use Rattle.ocfl_tree.proofs.Orders.{place_cmp_total, not_below_itself, before_each, among_left}
use Rattle.ocfl_rules.proofs.BelowLaws.{ascends_append, from_append, from_flat_map}
use Rattle.ocfl_split.specs.Levels.{leads_on, directories_in, directories_below, level, level_below}
use Rattle.ocfl_split.specs.Splitting.{room_below, next_level, wider, kept, listed_within, listed_from, listed_for}
use Rattle.ocfl_split.proofs.{Entries.{among_from_map, tree_rises}, Ranks.{before_longer, all_from}}

-- ---- levels in order

module _ (root : StorageRoot) where
  child_of : (d z : Place) → IsAmong (directories_below root d) z → (n : Text) × (z ≡ d ++ n ∷ [])
  child_of d z i = by (leads_on root d) i
    where
      by : (b : Bool) → IsAmong (cond b (directories_in root d) []) z → (n : Text) × (z ≡ d ++ n ∷ [])
      by true j = let k = among_from_map (λ n. d ++ n ∷ []) _ z j in (k.0, k.2)
      by false j = absurd j

  below_rises : (d : Place) → IsAscending place_cmp (directories_below root d)
  below_rises d = by (leads_on root d)
    where
      by : (b : Bool) → IsAscending place_cmp (cond b (directories_in root d) [])
      by true = tree_rises root d
      by false = tt

  next_rises : (depth : ℕ) (ds : List Place) → IsAscending place_cmp ds → ((z : Place) → IsAmong ds z → length z ≡ depth) → IsAscending place_cmp (level_below root ds)
  next_rises depth [] h long = tt
  next_rises depth (d ∷ ds) h long =
      ascends_append place_cmp (directories_below root d) (level_below root ds) (below_rises d) (next_rises depth ds h.1 (λ z i. long z (inr i))) apart
    where
      apart : (v w : Place) → IsAmong (directories_below root d) v → IsAmong (level_below root ds) w → place_cmp v w ≡ Less
      apart v w i j =
          let a = child_of d v i in
          let e = from_flat_map (directories_below root) ds w j in
          let b = child_of e.0 w e.1.1 in
          let same : length d ≡ length e.0 = long d (inl refl) ∙ sym (long e.0 (inr e.1.0)) in
          ap (λ p. place_cmp p w) a.1 ∙ ap (place_cmp (d ++ a.0 ∷ [])) b.1 ∙ before_longer d e.0 (a.0 ∷ []) (b.0 ∷ []) same (before_each place_cmp d ds h.0 e.0 e.1.0)

  level_long : (n : ℕ) (z : Place) → IsAmong (level root n) z → length z ≡ n
  level_long zero z (inl e) = ap length e
  level_long zero z (inr j) = absurd j
  level_long (suc n) z i =
      let d = from_flat_map (directories_below root) (level root n) z i in
      let a = child_of d.0 z d.1.1 in
      let long = level_long n d.0 d.1.0 in
      ap length a.1 ∙ omega (arith, length-append d.0 (a.0 ∷ []), long)

  pub level_rises : (n : ℕ) → IsAscending place_cmp (level root n)
  level_rises zero = (tt, tt)
  level_rises (suc n) = next_rises n (level root n) (level_rises n) (level_long n)

-- ---- each once

abbrev Once : List Place → Type 0
Once [] = ⊤
Once (x ∷ xs) = ((z : Place) → IsAmong xs z → x ≢ z) × Once xs

rises_once : (xs : List Place) → IsAscending place_cmp xs → Once xs
rises_once [] h = tt
rises_once (x ∷ xs) h = (λ z i e. not_below_itself place_cmp_total x (subst (λ y. place_cmp x y ≡ Less) (sym e) (before_each place_cmp x xs h.0 z i)), rises_once xs h.1)

once_front : (xs ys : List Place) → Once (xs ++ ys) → Once xs
once_front [] ys h = tt
once_front (x ∷ xs) ys h = (λ z i. h.0 z (among_left xs ys z i), once_front xs ys h.1)

once_append : (xs ys : List Place) → Once xs → Once ys → ((x y : Place) → IsAmong xs x → IsAmong ys y → x ≢ y) → Once (xs ++ ys)
once_append [] ys h k apart = k
once_append (x ∷ xs) ys h k apart = (λ z i. by z (from_append xs ys z i), once_append xs ys h.1 k (λ v w i j. apart v w (inr i) j))
  where
    by : (z : Place) → IsAmong xs z ⊎ IsAmong ys z → x ≢ z
    by z (inl i) = h.0 z i
    by z (inr j) = apart x z (inl refl) j

once_pairs : (xs : List Place) → Once xs → AllPairs (λ a b. a ≢ b) xs
once_pairs [] h = λ i j d l m. absurd (omega (arith, m))
once_pairs (x ∷ xs) h = AllPairs-cons (λ a b. a ≢ b) x xs (all_from (λ z. x ≢ z) xs h.0) (once_pairs xs h.1)

module _ (root : StorageRoot) where
  front_within : (room : ℕ) (ds : List Place) → (rest : List Place) × (ds ≡ listed_within root room ds ++ rest)
  front_within room [] = ([], refl)
  front_within room (d ∷ ds) = by (nat_le (length (directories_below root d)) room) (front_within (room - length (directories_below root d)) ds)
    where
      by : (b : Bool) → ((rest : List Place) × (ds ≡ listed_within root (room - length (directories_below root d)) ds ++ rest)) → (rest : List Place)
          × (d ∷ ds ≡ (d ∷ cond b (listed_within root (room - length (directories_below root d)) ds) []) ++ rest)
      by true k = (k.0, ap (λ xs. d ∷ xs) k.1)
      by false k = (ds, refl)

  record IsListedFrom (n : ℕ) (ds : List Place) : Type 0 where
    once : Once ds
    deep : (z : Place) → IsAmong ds z → n ≤ length z

  none_listed : (n : ℕ) → IsListedFrom n []
  none_listed n = record { once = tt; deep = λ z i. absurd i }

  listed_level : (n room : ℕ) (more : List Place) → IsListedFrom (suc n) more → IsListedFrom n (listed_within root room (level root n) ++ more)
  listed_level n room more h =
      let f = front_within room (level root n) in
      let once = once_front (listed_within root room (level root n)) f.0 (subst Once f.1 (rises_once (level root n) (level_rises root n))) in
      record {
        once = once_append (listed_within root room (level root n)) more once h.once apart;
        deep = λ z i. by z (from_append (listed_within root room (level root n)) more z i);
      }
    where
      long : (z : Place) → IsAmong (listed_within root room (level root n)) z → length z ≡ n
      long z i =
          let f = front_within room (level root n) in
          level_long root n z (subst (λ xs. IsAmong xs z) (sym f.1) (among_left (listed_within root room (level root n)) f.0 z i))

      apart : (x y : Place) → IsAmong (listed_within root room (level root n)) x → IsAmong more y → x ≢ y
      apart x y i j e =
          let a = long x i in
          let b = h.deep y j in
          let c = ap length e in
          absurd (omega (arith, a, b, c))

      by : (z : Place) → IsAmong (listed_within root room (level root n)) z ⊎ IsAmong more z → n ≤ length z
      by z (inl i) = let a = long z i in omega (arith, a)
      by z (inr j) = let b = h.deep z j in omega (arith, b)

  listed_once : (k count n : ℕ) (above : List Place) → IsListedFrom n (listed_from k root count above (level root n))
  unfolding listed_from
  listed_once zero count n above = none_listed n
  listed_once (suc k) count n above = by (nat_le count (length (level root n))) (listed_once k count (suc n) (kept (wider above (level root n)) (level root (suc n))))
    where
      lower : (b : Bool) → IsListedFrom (suc n) (listed_from k root count (kept (wider above (level root n)) (level root (suc n))) (level root (suc n)))
          → IsListedFrom (suc n) (option_map_or (λ next. listed_from k root count (kept (wider above (level root n)) next) next) (cond b None (Some (level_below root (level root n)))) [])
      lower true h = none_listed (suc n)
      lower false h = h

      by : (b : Bool) → IsListedFrom (suc n) (listed_from k root count (kept (wider above (level root n)) (level root (suc n))) (level root (suc n)))
          → IsListedFrom n (cond b [] (listed_within root (room_below above (level root n)) (level root n) ++ option_map_or
          (λ next. listed_from k root count (kept (wider above (level root n)) next) next) (next_level root (room_below above (level root n)) (level root n)) []))
      by true h = none_listed n
      by false h = listed_level n (room_below above (level root n)) _
          (lower (length (level_below root (level root n)) == 0 || nat_lt (room_below above (level root n)) (length (level_below root (level root n)))) h)

  pub listed_apart : (count : ℕ) → AllPairs (λ a b. a ≢ b) (listed_for root count)
  unfolding listed_for
  listed_apart count = once_pairs (listed_from 128 root count [] (level root 0)) (listed_once 128 count 0 []).once
