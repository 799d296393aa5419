-- The level that is split, and its directories.
use Rattle.std.proofs.Common.{◌≡◌, ◌≢◌, ◌⊎◌, inl, inr, ℕ, zero, suc, ◌+◌, ◌-◌, ◌*◌, ◌/◌, ◌<◌, ◌≤◌, List, [], ◌∷◌, refl, sym, ◌∙◌, ap, subst, true, false, Bool, Some, None, length, arith}
use Rattle.std.proofs.lemmas.Bool.{le-leb, leb-true, leb-false, eqb-true, eq-eqb, ne_eqb, or_cases, or_parts}
use Rattle.std.specs.Prelude.{cond, ◌||◌, ◌==◌, nat_lt, nat_le, min, slice_get}
use Rattle.std.specs.Option.{option_map_or, option_to_list}
use Rattle.ocfl_tree.specs.{Place.{Place}, Ascending.{IsAmong}}
use Rattle.ocfl_tree.specs.StorageRoot.{StorageRoot, dir, at, is_dir}
use Rattle.ocfl_tree.proofs.Orders.{true_not_false}
use Rattle.ocfl_rules.proofs.BelowLaws.{from_append}
use Rattle.ocfl_item.proofs.LooksZones.{dir_from_leaf}
use Rattle.ocfl_split.specs.Levels.{level, level_below}
use Rattle.ocfl_split.specs.Splitting.{max_held, held, room_below, next_level, wider, kept, level_from, split_level, firsts, separators_of, IsSplitLevel}
use Rattle.ocfl_split.proofs.Descents.{level_directories}

-- ---- which level

-- the level that is found from level n on
record Found (root : StorageRoot) (count : ℕ) (ds : List Place) : Type 0 where
  number : ℕ
  is : ds ≡ level root number
  level : IsSplitLevel root count number

nothing : (ps : List Place) → (length ps == 0) ≡ true → ps ≡ []
nothing [] h = refl
nothing (p ∷ ps) h = let none : length (p ∷ ps) ≡ 0 = eqb-true (length (p ∷ ps)) 0 h in absurd (omega (arith, none))

something : (ps : List Place) → (length ps == 0) ≡ false → ps ≡ [] → ⊥
something [] h e = true_not_false h
something (p ∷ ps) h e = cc

further : (root : StorageRoot) (n : ℕ) → level root (suc n) ≡ level root (n + 1)
further root n = let same : suc n ≡ n + 1 = omega arith in ap (level root) same

-- down to level m: level n is the widest, and the lowest of those that are equally wide
record IsWidest (root : StorageRoot) (m n : ℕ) (above : List Place) : Type 0 where
  reached : n ≤ m
  widest : (k : ℕ) → k ≤ m → length (level root k) ≤ length (level root n)
  lowest : (k : ℕ) → n < k → k ≤ m → length (level root k) < length (level root n)
  is : wider above (level root m) ≡ level root n
  holds : length above + length (level root m) ≡ held root n m

module _ (root : StorageRoot) where
  -- up to level m is up to the one above it, and m
  at_or_above : (P : ℕ → Type 0) (m : ℕ) → ((k : ℕ) → k ≤ m → P k) → P (suc m) → (k : ℕ) → k ≤ suc m → P k
  at_or_above P m below top k l = by (nat_le k m) refl
    where
      by : (b : Bool) → nat_le k m ≡ b → P k
      by true e = below k (leb-true k m e)
      by false e =
          let past : m < k = leb-false k m e in
          let same : suc m ≡ k = omega (arith, l, past) in
          subst P same top

  abbrev width : ℕ → ℕ
  width k = length (level root k)

  widest_first : IsWidest root 0 0 []
  widest_first = record {
    reached = omega arith;
    widest = λ k l. let same : 0 ≡ k = omega (arith, l) in subst (λ i. width i ≤ width 0) same (omega arith);
    lowest = λ k l m. absurd (omega (arith, l, m));
    is = refl;
    holds = refl;
  }

  module _ (m n : ℕ) (above : List Place) (so : IsWidest root m n above) where
    on_as : (xs : List Place) → xs ≡ level root n → (b : Bool) → nat_le (length (level root n)) (width (suc m)) ≡ b → (i : ℕ)
        × IsWidest root (suc m) i (cond (nat_le (length xs) (width (suc m))) [] xs)
    on_as xs e true h =
        let low : width n ≤ width (suc m) = leb-true (width n) (width (suc m)) h in
        let drop : cond (nat_le (length xs) (width (suc m))) [] xs ≡ [] = ap (λ ys. cond (nat_le (length ys) (width (suc m))) [] ys) e ∙ ap (λ b. cond b [] (level root n)) h in (
          suc m,
          subst (IsWidest root (suc m) (suc m)) (sym drop) (record {
            reached = omega arith;
            widest = at_or_above (λ k. width k ≤ width (suc m)) m (λ k l. let w = so.widest k l in omega (arith, w, low)) (omega arith);
            lowest = λ k l j. absurd (omega (arith, l, j));
            is = ap (λ b. cond b (level root (suc m)) []) (le-leb 0 (width (suc m)) (omega arith));
            holds = let same = held_same (suc m) in omega (arith, same);
          }),
        )
      where
        held_same : (k : ℕ) → held root k k ≡ width k
        held_same k = ap (λ b. cond b (width k) (width k + width k)) (eq-eqb k k refl)
    on_as xs e false h =
        let high : width (suc m) < width n = leb-false (width n) (width (suc m)) h in
        let keep : cond (nat_le (length xs) (width (suc m))) [] xs ≡ level root n = ap (λ ys. cond (nat_le (length ys) (width (suc m))) [] ys) e ∙ ap (λ b. cond b [] (level root n)) h in (
          n,
          subst (IsWidest root (suc m) n) (sym keep) (record {
            reached = omega (arith, so.reached);
            widest = at_or_above (λ k. width k ≤ width n) m so.widest (omega (arith, high));
            lowest = λ k past upto. at_or_above (λ i. n < i → width i < width n) m (λ i low o. so.lowest i o low) (λ o. high) k upto past;
            is = ap (λ b. cond b (level root (suc m)) (level root n)) h;
            holds = sym (ap (λ b. cond b (width n) (width n + width (suc m))) apart);
          }),
        )
      where
        apart : (n == suc m) ≡ false
        apart = ne_eqb n (suc m) (λ f. omega (arith, so.reached, f))

    widest_on : (i : ℕ) × IsWidest root (suc m) i (kept (wider above (level root m)) (level root (suc m)))
    widest_on = on_as (wider above (level root m)) so.is (nat_le (length (level root n)) (width (suc m))) refl

module _ (root : StorageRoot) (count : ℕ) where
  -- what is found one level further down
  abbrev Goes : ℕ → ℕ → List Place → Type 0
  Goes k m above = ((j : ℕ) → j < suc m → length (level root j) < count) → level root (suc m) ≢ []
      → Found root count (level_from k root count (kept (wider above (level root m)) (level root (suc m))) (level root (suc m)))

  -- level m is the last that is reached
  abbrev Ends : ℕ → ℕ → Type 0
  Ends m n = (count ≤ length (level root n)) ⊎ ((level root (m + 1) ≡ []) ⊎ ((max_held < held root n m + length (level root (m + 1))) ⊎ (m ≡ 128)))

  found_from : (k m n : ℕ) (above : List Place) → ((j : ℕ) → j < m → length (level root j) < count) → level root m ≢ [] → IsWidest root m n above → m + k ≡ 128
      → Found root count (level_from k root count above (level root m))
  unfolding level_from
  found_from zero m n above fewer some so sum =
      record {
        number = n;
        is = so.is;
        level =
            record { last = m; reached = so.reached; some = some; fewer = fewer; widest = so.widest; lowest = so.lowest; ends = inr (inr (inr (omega (arith, sum)))) };
      }
  found_from (suc k) m n above fewer some so sum =
      let on = widest_on root m n above so in
      by (nat_le count (length (level root m))) refl (λ less more. found_from k (suc m) on.0 (kept (wider above (level root m)) (level root (suc m))) less more on.1 (omega (arith, sum)))
    where
      one_more : nat_le count (length (level root m)) ≡ false → (j : ℕ) → j < suc m → length (level root j) < count
      one_more h j l = at_most (nat_le (suc j) m) refl
        where
          at_most : (b : Bool) → nat_le (suc j) m ≡ b → length (level root j) < count
          at_most true e = fewer j (leb-true (suc j) m e)
          at_most false e =
              let above : m < suc j = leb-false (suc j) m e in
              let same : m ≡ j = omega (arith, l, above) in
              subst (λ i. length (level root i) < count) same (leb-false count (length (level root m)) h)

      ended : Ends m n → Found root count (wider above (level root m))
      ended ends = record { number = n; is = so.is; level = record { last = m; reached = so.reached; some = some; fewer = fewer; widest = so.widest; lowest = so.lowest; ends = ends } }

      lower : (b : Bool) → (length (level_below root (level root m)) == 0 || nat_lt (room_below above (level root m)) (length (level_below root (level root m)))) ≡ b
          → nat_le count (length (level root m)) ≡ false → Goes k m above
          → Found root count (option_map_or (λ next. level_from k root count (kept (wider above (level root m)) next) next)
          (cond b None (Some (level_below root (level root m)))) (wider above (level root m)))
      lower true e h go = ended (inr (last (or_cases (length (level_below root (level root m)) == 0) (nat_lt (room_below above (level root m)) (length (level_below root (level root m)))) e)))
        where
          last : ((length (level_below root (level root m)) == 0) ≡ true) ⊎ (nat_lt (room_below above (level root m)) (length (level_below root (level root m))) ≡ true)
              → (level root (m + 1) ≡ []) ⊎ ((max_held < held root n m + length (level root (m + 1))) ⊎ (m ≡ 128))
          last (inl f) = inl (sym (further root m) ∙ nothing (level_below root (level root m)) f)
          last (inr f) =
              let many = leb-true (suc (room_below above (level root m))) (length (level_below root (level root m))) f in
              let holds = so.holds in
              inr (inl (subst (λ xs. max_held < held root n m + length xs) (further root m) (omega (arith, many, holds))))
      lower false e h go =
          go (one_more h) (something (level_below root (level root m))
          (or_parts (length (level_below root (level root m)) == 0) (nat_lt (room_below above (level root m)) (length (level_below root (level root m)))) e).0)

      by : (b : Bool) → nat_le count (length (level root m)) ≡ b → Goes k m above
          → Found root count (cond b (level root m)
          (option_map_or (λ next. level_from k root count (kept (wider above (level root m)) next) next)
          (next_level root (room_below above (level root m)) (level root m)) (wider above (level root m))))
      by true h down = subst (Found root count) here (ended (inl (omega (arith, enough, most))))
        where
          enough : count ≤ length (level root m)
          enough = leb-true count (length (level root m)) h

          most : length (level root m) ≤ length (level root n)
          most = so.widest m (omega arith)

          -- each level above has fewer, so the widest is the last
          last_is : (b : Bool) → nat_le m n ≡ b → level root n ≡ level root m
          last_is true e = let low = leb-true m n e in let same : n ≡ m = omega (arith, low, so.reached) in ap (level root) same
          last_is false e = let less = fewer n (leb-false m n e) in absurd (omega (arith, less, enough, most))

          here : wider above (level root m) ≡ level root m
          here = so.is ∙ last_is (nat_le m n) refl
      by false h down = lower (length (level_below root (level root m)) == 0 || nat_lt (room_below above (level root m)) (length (level_below root (level root m)))) refl h down

  found : Found root count (split_level root count)
  unfolding split_level
  found = found_from 128 0 0 [] (λ j l. absurd (omega (arith, l))) (λ e. cc) (widest_first root) (omega arith)

  pub one_level : (n : ℕ) × ((split_level root count ≡ level root n) × IsSplitLevel root count n)
  one_level = (found.number, (found.is, found.level))

-- ---- its directories

got_among : (ds : List Place) (i : ℕ) (z : Place) → IsAmong (option_to_list (slice_get ds i)) z → IsAmong ds z
got_among [] i z h = absurd h
got_among (d ∷ ds) zero z (inl e) = inl e
got_among (d ∷ ds) zero z (inr j) = absurd j
got_among (d ∷ ds) (suc i) z h = inr (got_among ds i z h)

first_among : (ds : List Place) (m k : ℕ) (z : Place) → IsAmong (firsts ds m k) z → IsAmong ds z
first_among ds m zero z h = absurd h
first_among ds m (suc k) z h = by (first_among ds m k z) (from_append (firsts ds m k) (option_to_list (slice_get ds ((k + 1) * length ds / m))) z h)
  where
    by : (IsAmong (firsts ds m k) z → IsAmong ds z) → IsAmong (firsts ds m k) z ⊎ IsAmong (option_to_list (slice_get ds ((k + 1) * length ds / m))) z → IsAmong ds z
    by f (inl j) = f j
    by f (inr j) = got_among ds ((k + 1) * length ds / m) z j

level_there : (root : StorageRoot) (n : ℕ) (z : Place) → IsAmong (level root n) z → is_dir root z ≡ true
level_there root zero z (inl e) = ap (is_dir root) e
level_there root zero z (inr j) = absurd j
level_there root (suc n) z j = level_directories root (level root n) z j

pub separator_in_level : (root : StorageRoot) (count : ℕ) (p : Place) → IsAmong (separators_of root count) p → IsAmong (split_level root count) p
separator_in_level root count p h = first_among (split_level root count) (min count (length (split_level root count))) (min count (length (split_level root count)) - 1) p h

pub separator_there : (root : StorageRoot) (count : ℕ) (p : Place) → IsAmong (separators_of root count) p → at root p ≡ Some dir
separator_there root count p h =
    let k = one_level root count in
    dir_from_leaf (at root p) (level_there root k.0 p (subst (λ xs. IsAmong xs p) k.1.0 (separator_in_level root count p h)))

pub none_above_has_enough : (root : StorageRoot) (count n k : ℕ) → IsSplitLevel root count n → k < n → length (level root k) < count
none_above_has_enough root count n k h l =
    let reached = h.reached in
    h.fewer k (omega (arith, l, reached))
