-- Level by level, down to the one that is split.
use Rattle.std.proofs.Common.{◌≡◌, ◌⊎◌, inl, inr, ℕ, zero, suc, ◌+◌, ◌-◌, ◌<◌, ◌≤◌, List, [], ◌∷◌, ◌++◌, refl, sym, ◌∙◌, ap, subst, true, false, Bool, Some, None, length, get_or, All, arith, append_assoc}
use Rattle.std.proofs.{lemmas.List.{append-nil}, lemmas.Bool.{le-leb, leb-true, leb-false}}
use Rattle.std.specs.{Prelude.{cond, ◌&&◌, not, nat_le}, Option.{option_map_or}}
use Rattle.ocfl_tree.specs.{Place.{Place}, Ascending.{IsAmong}}
use Rattle.ocfl_tree.specs.{StorageRoot.{StorageRoot, is_dir, names_in}, Store.{Store}}
use Rattle.ocfl_tree.proofs.{Bools.{and_first, and_both}, Orders.{among_from_filter}}
use Rattle.ocfl_rules.proofs.BelowLaws.{from_flat_map}
use Rattle.ocfl_item.specs.{Ways.{is_extensions_name}, declared.fault.Fault.{Fault}}
use Rattle.ocfl_split.specs.Levels.{leads_on, directories_in, directories_below, level_below}
use Rattle.ocfl_split.specs.Splitting.{room_below, next_level, wider, kept, level_from, split_level, listed_within, listed_from, listed_for, ListsAll, ListsStop}
use Rattle.ocfl_split.specs.Internal.Directories.{IsLevel, AreListable}
use Rattle.ocfl_split.proofs.{Entries.{among_from_map}, Ranks.{all_from}}
use Rattle.ocfl_split.proofs.Below.{lists_none, lists_on, stops_on, stops_before}

-- ---- directories of the tree

abbrev pub AreDirectories : StorageRoot → List Place → Type 0
AreDirectories root ds = All (λ d. is_dir root d ≡ true) ds

in_directory : (root : StorageRoot) (d z : Place) → IsAmong (directories_in root d) z → is_dir root z ≡ true
in_directory root d z i =
    let k = among_from_map (λ n. d ++ n ∷ []) _ z i in
    let f = among_from_filter (λ n. is_dir root (d ++ n ∷ []) && not (is_extensions_name d n)) (names_in root d) k.0 k.1 in
    ap (is_dir root) k.2 ∙ and_first (is_dir root (d ++ k.0 ∷ [])) (not (is_extensions_name d k.0)) f.1

below_directory : (root : StorageRoot) (d z : Place) (b : Bool) → IsAmong (cond b (directories_in root d) []) z → is_dir root z ≡ true
below_directory root d z true i = in_directory root d z i
below_directory root d z false i = absurd i

pub level_directories : (root : StorageRoot) (ds : List Place) (z : Place) → IsAmong (level_below root ds) z → is_dir root z ≡ true
level_directories root ds z i =
    let k = from_flat_map (directories_below root) ds z i in
    below_directory root k.0 z (leads_on root k.0) k.1.1

next_some : (b : Bool) (ps qs : List Place) → Some qs ≡ cond b None (Some ps) → qs ≡ ps
next_some true ps qs e = cc
next_some false ps qs e = cc

-- ---- one level further

module _ (root : StorageRoot) (count : ℕ) (above ds : List Place) where
  abbrev split_in : ℕ → List Place → List Place
  split_in k next = level_from k root count (kept (wider above ds) next) next

  abbrev listed_in : ℕ → List Place → List Place
  listed_in k next = listed_from k root count (kept (wider above ds) next) next

  level_stop : (k : ℕ) → nat_le (length above) (length ds) ≡ true → nat_le count (length ds) ≡ true → level_from k root count above ds ≡ ds
  unfolding level_from
  level_stop zero w h = ap (λ b. cond b ds above) w
  level_stop (suc k) w h = ap (λ b. cond b ds (option_map_or (split_in k) (next_level root (room_below above ds) ds) (wider above ds))) h

  level_last : (k : ℕ) → nat_le count (length ds) ≡ false → None ≡ next_level root (room_below above ds) ds → level_from (suc k) root count above ds ≡ wider above ds
  unfolding level_from
  level_last k h e = ap (λ b. cond b ds (option_map_or (split_in k) (next_level root (room_below above ds) ds) (wider above ds))) h ∙ ap (λ o. option_map_or (split_in k) o (wider above ds)) (sym e)

  level_on : (k : ℕ) (next : List Place) → nat_le count (length ds) ≡ false → Some next ≡ next_level root (room_below above ds) ds
      → level_from (suc k) root count above ds ≡ level_from k root count (kept (wider above ds) next) next
  unfolding level_from
  level_on k next h e = ap (λ b. cond b ds (option_map_or (split_in k) (next_level root (room_below above ds) ds) (wider above ds))) h ∙ ap (λ o. option_map_or (split_in k) o (wider above ds)) (sym e)

  level_end : level_from 0 root count above ds ≡ wider above ds
  unfolding level_from
  level_end = refl

  abbrev within_room : List Place
  within_room = listed_within root (room_below above ds) ds

  listed_stop : (k : ℕ) → nat_le count (length ds) ≡ true → listed_from k root count above ds ≡ []
  unfolding listed_from
  listed_stop zero h = refl
  listed_stop (suc k) h = ap (λ b. cond b [] (within_room ++ option_map_or (listed_in k) (next_level root (room_below above ds) ds) [])) h

  listed_more : (k : ℕ) → nat_le count (length ds) ≡ false → listed_from (suc k) root count above ds ≡ within_room ++ option_map_or (listed_in k) (next_level root (room_below above ds) ds) []
  unfolding listed_from
  listed_more k h = ap (λ b. cond b [] (within_room ++ option_map_or (listed_in k) (next_level root (room_below above ds) ds) [])) h

  listed_end : listed_from 0 root count above ds ≡ []
  unfolding listed_from
  listed_end = refl

-- ---- so far

-- the directories above a level with n names were listed, and what comes further down is as from
-- there
pub record IsSplitSo (root : StorageRoot) (s t : Store) (count n : ℕ) (above ds : List Place) : Type 0 where
  pub directories : AreDirectories root ds
  pub done : List Place
  pub lists : ListsAll root s t done
  pub few : (length above ≡ 0) ⊎ (length above < count)
  pub left : split_level root count ≡ level_from (128 - n) root count above ds
  pub listed : listed_for root count ≡ done ++ listed_from (128 - n) root count above ds

pub AreDirectories-is : (root : StorageRoot) (ds : List Place) → ((z : Place) → IsAmong ds z → is_dir root z ≡ true) → AreDirectories root ds
AreDirectories-is root ds h = all_from (λ d. is_dir root d ≡ true) ds h

kept_few : (above ds next : List Place) (count : ℕ) → length above < count → length ds < count → length (kept (wider above ds) next) < count
kept_few above ds next count l m = by (nat_le (length above) (length ds))
  where
    inner : (xs : List Place) (b : Bool) → length xs < count → length (cond b [] xs) < count
    inner xs true k = omega (arith, m)
    inner xs false k = k

    by : (b : Bool) → length (kept (cond b ds above) next) < count
    by true = inner ds (nat_le (length ds) (length next)) m
    by false = inner above (nat_le (length above) (length next)) l

module _ (root : StorageRoot) (count : ℕ) where
  pub split_begins : (s : Store) (above ds : List Place) → s.tree ≡ root → above ≡ [] → ds ≡ [] ∷ [] → IsSplitSo root s s count 0 above ds
  unfolding split_level listed_for
  split_begins s above ds over f e = subst (λ xs. IsSplitSo root s s count 0 xs ds) (sym f) (subst (IsSplitSo root s s count 0 []) (sym e) (record {
    directories = AreDirectories-is root ([] ∷ []) top;
    done = [];
    lists = lists_none root s over;
    few = inl refl;
    left = refl;
    listed = refl;
  }))
    where
      top : (z : Place) → IsAmong ([] ∷ []) z → is_dir root z ≡ true
      top z (inl g) = ap (is_dir root) g
      top z (inr j) = absurd j

  module _ (s t : Store) (n : ℕ) (above ds : List Place) (so : IsSplitSo root s t count n above ds) where
    pub can_list : IsLevel n ds → n < 128 → AreListable root ds
    can_list h l = λ i d k.
        let long : length (get_or ds i d) ≡ n = h.deep i d k in
        and_both (nat_le (length (get_or ds i d)) 127) (is_dir root (get_or ds i d)) (le-leb (length (get_or ds i d)) 127 (omega (arith, long, l))) (so.directories i d k)

    low : nat_le count (length ds) ≡ true → nat_le (length above) (length ds) ≡ true
    low h = by so.few
      where
        by : (length above ≡ 0) ⊎ (length above < count) → nat_le (length above) (length ds) ≡ true
        by (inl e) = le-leb (length above) (length ds) (omega (arith, e))
        by (inr l) = let enough = leb-true count (length ds) h in le-leb (length above) (length ds) (omega (arith, l, enough))

    -- enough directories
    pub split_enough : nat_le count (length ds) ≡ true → (ds ≡ split_level root count) × ListsAll root s t (listed_for root count)
    split_enough h = (
      sym (so.left ∙ level_stop root count above ds (128 - n) (low h) h),
      subst (ListsAll root s t) (sym (so.listed ∙ ap (λ xs. so.done ++ xs) (listed_stop root count above ds (128 - n) h) ∙ append-nil so.done)) so.lists,
    )

    pub split_ends : 128 ≤ n → (wider above ds ≡ split_level root count) × ListsAll root s t (listed_for root count)
    split_ends l =
        let none : 128 - n ≡ 0 = omega (arith, l) in (
          sym (so.left ∙ ap (λ k. level_from k root count above ds) none ∙ level_end root count above ds),
          subst (ListsAll root s t) (sym (so.listed ∙ ap (λ k. so.done ++ listed_from k root count above ds) none
              ∙ ap (λ xs. so.done ++ xs) (listed_end root count above ds) ∙ append-nil so.done)) so.lists,
        )

    module _ (u : Store) (room : ℕ) (l : n < 128) (h : nat_le count (length ds) ≡ false) (e : room ≡ room_below above ds) where
      down : 128 - n ≡ suc (127 - n)
      down = omega (arith, l)

      abbrev now : List Place
      now = within_room root count above ds

      -- what is listed from here
      more : listed_for root count ≡ (so.done ++ now) ++ option_map_or (listed_in root count above ds (127 - n)) (next_level root (room_below above ds) ds) []
      more =
          so.listed ∙ ap (λ k. so.done ++ listed_from k root count above ds) down ∙ ap (λ xs. so.done ++ xs) (listed_more root count above ds (127 - n) h)
          ∙ sym (append_assoc so.done now (option_map_or (listed_in root count above ds (127 - n)) (next_level root (room_below above ds) ds) []))

      pub split_fails : (why : Fault) → ListsStop root t u (listed_within root room ds) why → ListsStop root s u (listed_for root count) why
      split_fails why k =
          let here = subst (λ r. ListsStop root t u (listed_within root r ds) why) e k in
          subst (λ xs. ListsStop root s u xs why) (sym more) (stops_before root s u (so.done ++ now) _ why (stops_on root s t u so.done now why so.lists here))

      all_now : ListsAll root t u (listed_within root room ds) → ListsAll root s u (so.done ++ now)
      all_now k = lists_on root s t u so.done now so.lists (subst (λ r. ListsAll root t u (listed_within root r ds)) e k)

      pub split_last : None ≡ next_level root room ds → ListsAll root t u (listed_within root room ds) → (wider above ds ≡ split_level root count) × ListsAll root s u (listed_for root count)
      split_last f k =
          let none : None ≡ next_level root (room_below above ds) ds = subst (λ r. None ≡ next_level root r ds) e f in (
            sym (so.left ∙ ap (λ i. level_from i root count above ds) down ∙ level_last root count above ds (127 - n) h none),
            subst (ListsAll root s u) (sym (more ∙ ap (λ o. (so.done ++ now) ++ option_map_or (listed_in root count above ds (127 - n)) o []) (sym none) ∙ append-nil (so.done ++ now))) (all_now k),
          )

      pub split_on : (keep next : List Place) → keep ≡ kept (wider above ds) next → Some next ≡ next_level root room ds
          → ListsAll root t u (listed_within root room ds) → IsSplitSo root s u count (n + 1) keep next
      split_on keep next is f k = subst (λ xs. IsSplitSo root s u count (n + 1) xs next) (sym is) (record {
        directories = AreDirectories-is root next (λ z i. level_directories root ds z (subst (λ xs. IsAmong xs z) (next_some _ (level_below root ds) next some) i));
        done = so.done ++ now;
        lists = all_now k;
        few = inr (kept_few above ds next count above_few (leb-false count (length ds) h));
        left = so.left ∙ ap (λ i. level_from i root count above ds) down ∙ level_on root count above ds (127 - n) next h some
            ∙ ap (λ i. level_from i root count (kept (wider above ds) next) next) same;
        listed = more ∙ ap (λ o. (so.done ++ now) ++ option_map_or (listed_in root count above ds (127 - n)) o []) (sym some)
            ∙ ap (λ i. (so.done ++ now) ++ listed_from i root count (kept (wider above ds) next) next) same;
      })
        where
          some : Some next ≡ next_level root (room_below above ds) ds
          some = subst (λ r. Some next ≡ next_level root r ds) e f

          same : 127 - n ≡ 128 - (n + 1)
          same = omega (arith, l)

          above_few : length above < count
          above_few = by so.few
            where
              by : (length above ≡ 0) ⊎ (length above < count) → length above < count
              by (inl z) = let less = leb-false count (length ds) h in omega (arith, z, less)
              by (inr m) = m
