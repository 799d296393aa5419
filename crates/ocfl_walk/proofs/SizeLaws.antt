-- Each step lowers the size of a stand.
use Rattle.std.proofs.Common.{◌≡◌, ℕ, zero, suc, ◌+◌, ◌*◌, ◌-◌, ◌^◌, ◌<◌, ◌≤◌, List, [], ◌∷◌, ◌++◌, refl, sym, ◌∙◌, ap, subst, map, Option, Some, None, length, arith}
use Rattle.std.proofs.Math.Nat.{pow-suc, one-le-pow, mul_comm}
use native.Mathlib.Numerals.{unary_clauses}
use Rattle.std.specs.{Prelude.{IfSome}, Ordering.{is_lt}}
use Rattle.ocfl_tree.specs.{Place.{Place, place_cmp}, declared.store.Entry.{Entry}}
use Rattle.ocfl_tree.specs.StorageRoot.{max_entries}
use Rattle.ocfl_inventory.specs.Table.{Triple, paths_of}
use Rattle.ocfl_rules.specs.{Zone.{max_listed_depth}, Between.{IsBeyond}}
use Rattle.ocfl_walk.specs.Standing.{Pile, entry_weight, frames_of, paths_above, piles_in, size_of, stand_size, weigh, levels}
use Rattle.ocfl_walk.specs.Internal.Standing.{IsAroundIf, IsFairPile, IsOrderly, IsTaken, left_of_folder, pushed}
use Rattle.ocfl_walk.specs.Internal.Walking.{GoesOn, GoesTo, step_from}
use Rattle.ocfl_walk.specs.declared.stand.Stand.{Stand}
use Rattle.ocfl_item.specs.{declared.folder.Folder.{Folder}, declared.pending.Pending.{Pending}}
use Rattle.ocfl_item.specs.declared.meeting.Around.{Around}
use Rattle.ocfl_walk.proofs.FilterLaws.{left_fewer}
use Rattle.ocfl_walk.proofs.OrderlyLaws.{chain_short, frames_count, old_chain}

mul_less : (x p w u : ℕ) → x + p < w → x * suc u + p < w * suc u
mul_less x p w zero l = omega (arith, l)
mul_less x p w (suc u) l = let h = simp unary_clauses at (mul_less x p w u l) in simp unary_clauses (omega (arith, h, l))

pub mul_room : (x p w v : ℕ) → 1 ≤ v → x + p < w → x * v + p < w * v
mul_room x p w zero h l = absurd (omega (arith, h))
mul_room x p w (suc u) h l = mul_less x p w u l

suc_times : (r w : ℕ) → suc r * w ≡ r * w + w
suc_times r zero = omega arith
suc_times r (suc w) = let h = suc_times r w in simp unary_clauses (omega (arith, h))

one_entry : (x p r whole rest q : ℕ) → x + p < whole → x + (r * whole + rest) + p < suc r * whole + rest + q
one_entry x p r whole rest q h = omega (arith, h, suc_times r whole)

module _ (w : ℕ) (positive : 0 < w) where
  level : (k : ℕ) → k ≤ max_listed_depth → (j : ℕ) × (levels - k ≡ suc j) × (levels - suc k ≡ j)
  level k h = (max_listed_depth - k, omega (arith, h), omega (arith, h))

  weigh_entry : (others : List Pile) (d : Place) (entry : Entry) (rest : List Entry) (f : Option Folder) (p q : ℕ) → length others ≤ max_listed_depth
      → IfSome f (λ g. length (left_of_folder g) ≤ max_entries) → max_entries + p < w
      → weigh w (pushed f ((d, rest) ∷ others)) + p < weigh w ((d, entry ∷ rest) ∷ others) + q
  weigh_entry others d entry rest f p q short few small = by f few
    where
      k : (j : ℕ) × (levels - length others ≡ suc j) × (levels - suc (length others) ≡ j)
      k = level (length others) short

      v : ℕ
      v = w ^ k.0

      big : 1 ≤ v
      big = one-le-pow k.0 w positive

      whole : w ^ (levels - length others) ≡ v * w
      whole = ap (λ e. w ^ e) k.1 ∙ pow-suc w k.0

      lower : w ^ (levels - suc (length others)) ≡ v
      lower = ap (λ e. w ^ e) k.2

      room : (x : ℕ) → x ≤ max_entries → x * v + p < w ^ (levels - length others)
      room x h = let m = mul_room x p w v big (omega (arith, h, small)) in subst (λ y. x * v + p < y) (sym (whole ∙ mul_comm v w)) m

      by : (f : Option Folder) → IfSome f (λ g. length (left_of_folder g) ≤ max_entries) → weigh w (pushed f ((d, rest) ∷ others)) + p < weigh w ((d, entry ∷ rest) ∷ others) + q
      by None h =
          let m = room 0 (omega arith) in
          let n = one_entry 0 p (length rest) (w ^ (levels - length others)) (weigh w others) q (omega (arith, m)) in
          omega (arith, n)
      by (Some g) h =
          let m = one_entry (length (left_of_folder g) * v) p (length rest) (w ^ (levels - length others)) (weigh w others) q (room (length (left_of_folder g)) h) in
          subst (λ y. length (left_of_folder g) * y + (length rest * w ^ (levels - length others) + weigh w others) + p < suc (length rest) * w ^ (levels - length others) + weigh w others + q) (sym lower) m

count_paths : (ts : List Triple) → length (map (λ e. e.path) ts) ≡ length ts
count_paths [] = refl
count_paths (t ∷ ts) = omega (arith, count_paths ts)

few_paths : (x : Place) (a : Option Around) → IsAroundIf x a → paths_above x a < 2 ^ 64
few_paths x None h = omega arith
few_paths x (Some o) h = let n = left_fewer (λ q. is_lt (place_cmp x (o.place ++ q))) (paths_of o.table) in omega (arith, n, count_paths o.table.triples, h.fit.few)

pub size_entry : (last x : Place) (ps new : List Pile) (entry : Entry) (a a' : Option Around) (f : Option Folder) → IsOrderly last ps a → IsTaken ps new entry
    → IsAroundIf x a' → IfSome f (λ g. IsFairPile x g) → size_of (Some x) (pushed f new) a' < size_of (Some last) ps a
unfolding size_of entry_weight
size_entry last x ps new entry a a' f h t h' g =
    let c = old_chain last ps new entry a h t in
    let others : length (frames_of t.others) ≤ length t.place = chain_short t.place (length t.place) (frames_of t.others) c.4 in
    let short : length t.others ≤ max_listed_depth = omega (arith, others, frames_count t.others, c.1) in
    let m = weigh_entry entry_weight (omega arith) t.others t.place entry t.rest f (paths_above x a') (paths_above last a) short (few f g) (omega (arith, few_paths x a' h')) in
    subst (λ qs. weigh entry_weight (pushed f new) + paths_above x a' < weigh entry_weight qs + paths_above last a) (sym t.old_is)
    (subst (λ qs. weigh entry_weight (pushed f qs) + paths_above x a' < weigh entry_weight ((t.place, entry ∷ t.rest) ∷ t.others) + paths_above last a) (sym t.new_is) m)
  where
    few : (f : Option Folder) → IfSome f (λ g. IsFairPile x g) → IfSome f (λ g. length (left_of_folder g) ≤ max_entries)
    few None k = k
    few (Some y) k = k.few

pub goes_to : (old new : Stand) (x : Place) (item : Option Pending) → IfSome item (λ p. p.place ≡ x) → new.last ≡ Some x → IsBeyond old.last x
    → stand_size new < stand_size old → length x ≤ 255 → GoesOn old new (step_from item)
goes_to old new x None i l o s d = (x, l, o, s)
goes_to old new x (Some p) i l o s d = (l ∙ ap (λ y. Some y) (sym i), subst (IsBeyond old.last) (sym i) o, s, subst (λ y. length y ≤ 255) (sym i) d)

pub goes_here : (new : Stand) (x : Place) (item : Option Pending) → new.last ≡ Some x → GoesTo new x (step_from item)
goes_here new x None l = l
goes_here new x (Some p) l = l

pub sizes_fall : (old new : Stand) (l l' : Option Place) (ps qs : List Pile) (a a' : Option Around) → old.last ≡ l → piles_in old.last old.listings.items ≡ ps
    → old.around ≡ a → new.last ≡ l' → piles_in new.last new.listings.items ≡ qs → new.around ≡ a' → size_of l' qs a' < size_of l ps a → stand_size new < stand_size old
unfolding stand_size
sizes_fall old new l l' ps qs a a' e1 e2 e3 f1 f2 f3 h =
    (subst (λ n. n < size_of old.last (piles_in old.last old.listings.items) old.around) (λ i. size_of (sym f1 i) (sym f2 i) (sym f3 i))
    (subst (λ n. size_of l' qs a' < n) (λ i. size_of (sym e1 i) (sym e2 i) (sym e3 i)) h))
