-- The first step of a walk, to the storage root.
use Rattle.std.proofs.Common.{◌≡◌, ℕ, ◌+◌, ◌*◌, ◌^◌, ◌<◌, ◌≤◌, List, [], ◌∷◌, refl, sym, ◌∙◌, ap, subst, Option, Some, None, length, arith}
use Rattle.std.proofs.Math.Nat.{pow-suc, one-le-pow, mul_comm}
use Rattle.std.specs.{declared.alloc.Global.{Global}, Prelude.{IfSome, Vec}}
use Rattle.ocfl_tree.specs.{declared.store.Entry.{Entry}, Place.{Place, Text}}
use Rattle.ocfl_tree.specs.{StorageRoot.{StorageRoot, max_entries}, Store.{Store}}
use Rattle.ocfl_report.specs.declared.further.Further.{Further}
use Rattle.ocfl_rules.specs.{Due.{due}, Head.{on}}
use Rattle.ocfl_walk.specs.Standing.{IsStanding, Pile, StandsAt, entry_weight, piles_at, size_of, weigh, levels}
use Rattle.ocfl_walk.specs.Internal.Standing.{IsFairPile, IsOrderly, left_of_folder, pushed}
use Rattle.ocfl_walk.specs.Internal.Walking.{IsPileAt, Steps, step_from}
use Rattle.ocfl_walk.specs.declared.stand.Stand.{Stand}
use Rattle.ocfl_item.specs.{Meeting.{IsItemAt, Meets}, declared.folder.Folder.{Folder}}
use Rattle.ocfl_item.specs.{declared.pending.Pending.{Pending}, declared.meeting.Around.{Around}}
use Rattle.ocfl_item.proofs.{BaseLaws.{root_some}, HeadCalls.{inside_not_root}}
use Rattle.ocfl_walk.proofs.{DueTurns.{due_first}, OrderlyLaws.{orderly_top}}
use Rattle.ocfl_walk.proofs.{PlacedLaws.{fits, piles_count}, StandLaws.{stands_top}}
use Rattle.ocfl_walk.proofs.{SizeLaws.{mul_room}, WalkCallLaws.{IsNear, meets_walks}}
use Rattle.ocfl_rules.proofs.StackLaws.{stack_starts}
use Rattle.ocfl_rules.proofs.BetweenLaws.{looked_first, read_first, root_unread}
use Rattle.ocfl_rules.proofs.WayLaws.{is_closed}

pub first_room : (vs : List (Vec Entry Global)) (f : Option Folder) → piles_at [] vs ≡ [] → IfSome f (λ _. length vs < levels)
first_room vs None e = tt
first_room vs (Some f) e = let n : length (piles_at [] vs) ≡ 0 = ap length e in let m = piles_count [] vs in omega (arith, n, m)

-- the first listing
pub first_pushed : (x : Place) (vs ws : List (Vec Entry Global)) (f : Option Folder) → x ≡ [] → piles_at [] vs ≡ [] → IfSome f (λ g. IsFairPile [] g)
    → ((p : Place) → IfSome f (λ g. (g.place ≡ p) × (length p ≡ length vs)) → piles_at p ws ≡ pushed f (piles_at p vs)) → piles_at x ws ≡ pushed f (piles_at [] vs)
first_pushed x vs ws f e none fair push =
    let few : length (piles_at [] vs) ≡ 0 = ap length none in
    let same : length {A = Text} [] ≡ length vs = omega (arith, few, piles_count [] vs) in
    ap (λ p. piles_at p ws) e ∙ push [] (fits [] vs f same fair)

pub orderly_first : (x : Place) (f : Option Folder) (ps : List Pile) (a : Option Around) → x ≡ [] → ps ≡ [] → a ≡ None → IfSome f (λ g. IsFairPile [] g) → IsOrderly x (pushed f ps) a
orderly_first x f ps a e none alone h =
    subst (λ b. IsOrderly x (pushed f ps) b) (sym alone) (subst (λ qs. IsOrderly x (pushed f qs) None) (sym none) (subst (λ y. IsOrderly y (pushed f []) None) (sym e) (by f h)))
  where
    by : (f : Option Folder) → IfSome f (λ g. IsFairPile [] g) → IsOrderly [] (pushed f []) None
    by None k = record { chain = tt; few = tt; object = tt }
    by (Some g) k = subst (λ d. IsOrderly [] ((d, left_of_folder g) ∷ []) None) (sym k.place) (orderly_top [] (left_of_folder g) [] None k.depth k.ascends k.few tt tt tt)

module _ (w : ℕ) (big : max_entries < w) where
  weigh_first : (n v : ℕ) → 1 ≤ v → n ≤ max_entries → n * v + 0 < v * w * w
  weigh_first n v one few =
      let m = mul_room n 0 w v one (omega (arith, few, big)) in
      let u = mul_room 1 0 w (v * w) (at_least v one) (omega (arith, big)) in
      let same = mul_comm v w in
      let turn = mul_comm (v * w) w in
      omega (arith, m, u, same, turn)
    where
      at_least : (v : ℕ) → 1 ≤ v → 1 ≤ v * w
      at_least v one = let k = mul_room 0 0 w v one (omega (arith, big)) in let same = mul_comm v w in omega (arith, k, same)

  weight_first : (f : Option Folder) → IfSome f (λ g. IsFairPile [] g) → weigh w (pushed f []) + 0 < w ^ 130
  weight_first f h =
      let v : ℕ = w ^ 128 in
      let one : 1 ≤ v = one-le-pow 128 w (omega (arith, big)) in
      let whole : w ^ 130 ≡ v * w * w = pow-suc w 129 ∙ ap (λ y. y * w) (pow-suc w 128) in
      subst (λ y. weigh w (pushed f []) + 0 < y) (sym whole) (by f h v one refl)
    where
      by : (f : Option Folder) → IfSome f (λ g. IsFairPile [] g) → (v : ℕ) → 1 ≤ v → w ^ 128 ≡ v → weigh w (pushed f []) + 0 < v * w * w
      by None k v one e = let h = weigh_first 0 v one (omega arith) in omega (arith, h)
      by (Some g) k v one e = let h = weigh_first (length (left_of_folder g)) v one k.few in subst (λ y. length (left_of_folder g) * y + 0 + 0 < v * w * w) (sym e) (omega (arith, h))

pub size_first : (x : Place) (f : Option Folder) (ps : List Pile) (a : Option Around) → ps ≡ [] → a ≡ None → IfSome f (λ g. IsFairPile [] g) → size_of (Some x) (pushed f ps) a < size_of None ps a
unfolding size_of entry_weight
size_first x f ps a none alone h =
    subst (λ b. size_of (Some x) (pushed f ps) b < size_of None ps b) (sym alone)
    (subst (λ qs. size_of (Some x) (pushed f qs) None < size_of None qs None) (sym none) (weight_first entry_weight (omega arith) f h))

pub root_short : (x : Place) → x ≡ [] → length x ≤ 255
root_short x e = let n : length x ≡ length {A = Text} [] = ap length e in omega (arith, n)

pub item_first : (x : Place) (item : Option Pending) → x ≡ [] → IfSome item (λ p. p.place ≡ []) → IfSome item (λ p. p.place ≡ x)
item_first x None e h = h
item_first x (Some p) e h = h ∙ sym e

module _ (further : Further) (root : StorageRoot) where
  pub first_stands : (x : Place) (f : Option Folder) (ps : List Pile) (a : Option Around) → x ≡ [] → ps ≡ [] → a ≡ None → IsPileAt root [] f → IsStanding further root x (pushed f ps) a
  first_stands x f ps a e none alone h =
      subst (λ b. IsStanding further root x (pushed f ps) b) (sym alone) (subst (λ qs. IsStanding further root x (pushed f qs) None) (sym none) (subst (λ y. IsStanding further root y (pushed f []) None) (sym e)
      (stands_top further root [] f [] None (stack_starts root (is_closed root) []) tt tt h (λ o s z. absurd (inside_not_root root o s z)))))

  -- the storage root comes first
  pub near_first : IsNear root None []
  near_first = record { beyond = tt; looked = looked_first root; read = read_first root ∙ sym (ap (λ b. on b []) (root_unread root)) }

  pub step_first : (s t : Store) (x : Place) (new : Stand) (item : Option Pending) → x ≡ [] → Meets further root s t [] → IsItemAt further root [] item
      → StandsAt further root new (Some x) → Steps further root s t None new (step_from item)
  step_first s t x new None e m i st = absurd (root_some further root i)
  step_first s t x new (Some p) e m i st =
      let there : [] ≡ p.place = sym i.1 in (
        meets_walks further root s t None p.place (subst (IsNear root None) there near_first) (subst (Meets further root s t) there m),
        subst (λ y. StandsAt further root new (Some y)) (e ∙ there) st,
        tt,
        record { pending = i.0; due_are = subst (λ y. due further root None ≡ y ∷ due further root (Some y)) there (due_first further root (root_some further root)) },
      )
