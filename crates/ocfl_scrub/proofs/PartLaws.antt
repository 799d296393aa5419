-- A cut by its parts: what it takes is paid for, and the first item after it is not. What could be
-- read has no part in the latter.
use Rattle.std.proofs.Common.{◌≡◌, ℕ, suc, ◌+◌, ◌<◌, List, [], ◌∷◌, refl, sym, ◌∙◌, ap, subst, true, false, Bool, take, drop, arith, eqb-true}
use Rattle.std.specs.Prelude.{cond, ◌==◌, ◌||◌, ◌&&◌, nat_lt}
use Rattle.ocfl_tree.specs.{Place.{Place}, StorageRoot.{StorageRoot}}
use Rattle.ocfl_tree.specs.declared.store.Opening.{Opening}
use Rattle.ocfl_tree.proofs.Orders.{true_not_false}
use Rattle.ocfl_report.specs.Line.{Item}
use Rattle.ocfl_report.specs.declared.further.Further.{Further}
use Rattle.ocfl_rules.specs.Inventories.{is_hashed}
use Rattle.ocfl_rules.specs.Audit.{given_by, total_cost}
use Rattle.ocfl_rules.specs.Trail.{unread_of}
use Rattle.ocfl_rules.specs.Due.{items_at}
use Rattle.ocfl_rules.specs.Runs.{Limits, files_of, total_files, may_take, cut_len, cut, left}
use Rattle.ocfl_scrub.proofs.{Paying.{Paid}, CutLaws.{IsStop, test_free, hashed_costs, free_costs}}

module _ (l : Limits) where
  taken_paid : (s f : ℕ) (items : List Item) → Paid l s f (take (cut_len l s f items) items)
  taken_paid s f [] = tt
  taken_paid s f (i ∷ items) = by (may_take l s f i.cost) refl (taken_paid (s + i.cost) (f + files_of i.cost) items)
    where
      more : ℕ
      more = cut_len l (s + i.cost) (f + files_of i.cost) items

      by : (b : Bool) → may_take l s f i.cost ≡ b → Paid l (s + i.cost) (f + files_of i.cost) (take more items) → Paid l s f (take (cond b (suc more) 0) (i ∷ items))
      by true e h = (e, h)
      by false e h = tt

  left_stops : (s f : ℕ) (items : List Item) → IsStop l (s + total_cost (take (cut_len l s f items) items)) (f + total_files (take (cut_len l s f items) items)) (drop (cut_len l s f items) items)
  left_stops s f [] = tt
  left_stops s f (i ∷ items) = by (may_take l s f i.cost) refl (left_stops (s + i.cost) (f + files_of i.cost) items)
    where
      more : ℕ
      more = cut_len l (s + i.cost) (f + files_of i.cost) items

      by : (b : Bool) → may_take l s f i.cost ≡ b → IsStop l (s + i.cost + total_cost (take more items)) (f + files_of i.cost + total_files (take more items)) (drop more items)
          → IsStop l (s + total_cost (take (cond b (suc more) 0) (i ∷ items))) (f + total_files (take (cond b (suc more) 0) (i ∷ items))) (drop (cond b (suc more) 0) (i ∷ items))
      by true e h =
          let c : s + i.cost + total_cost (take more items) ≡ s + (i.cost + total_cost (take more items)) = omega arith in
          let d : f + files_of i.cost + total_files (take more items) ≡ f + (files_of i.cost + total_files (take more items)) = omega arith in
          subst (λ n. IsStop l n (f + (files_of i.cost + total_files (take more items))) (drop more items)) c
          (subst (λ n. IsStop l (s + i.cost + total_cost (take more items)) n (drop more items)) d h)
      by false e h =
          let c : s ≡ s + 0 = omega arith in
          let d : f ≡ f + 0 = omega arith in
          subst (λ n. may_take l n (f + 0) i.cost ≡ false) c (subst (λ n. may_take l s n i.cost ≡ false) d e)

  pub cut_paid : (items : List Item) → Paid l 0 0 (cut items l)
  cut_paid items = taken_paid 0 0 items

  pub cut_stops : (items : List Item) → IsStop l (total_cost (cut items l)) (total_files (cut items l)) (left items l)
  cut_stops items =
      let c : 0 + total_cost (cut items l) ≡ total_cost (cut items l) = omega arith in
      let d : 0 + total_files (cut items l) ≡ total_files (cut items l) = omega arith in
      subst (λ n. IsStop l n (total_files (cut items l)) (left items l)) c (subst (λ n. IsStop l (0 + total_cost (cut items l)) n (left items l)) d (left_stops 0 0 items))

-- ---- whatever could be read

-- what is not paid for is a hashed file
pub stop_hashed : (further : Further) (root : StorageRoot) (os : List Opening) (l : Limits) (s f : ℕ) (p : Place) (ps : List Place) → IsStop l s f (items_at further root os (p ∷ ps)) → is_hashed further root p ≡ true
unfolding items_at
stop_hashed further root os l s f p ps h = by (is_hashed further root p) refl
  where
    by : (b : Bool) → is_hashed further root p ≡ b → b ≡ true
    by true e = refl
    by false e = absurd (true_not_false (sym (test_free l s f _ (free_costs further root (given_by (unread_of further root os) p) p e)) ∙ h))

some_cost : (c : ℕ) → 0 < c → (c == 0) ≡ false
some_cost c h = by (c == 0) refl
  where
    by : (b : Bool) → c == 0 ≡ b → b ≡ false
    by true e = let z : c ≡ 0 = eqb-true c 0 e in absurd (omega (arith, z, h))
    by false e = refl

same_test : (l : Limits) (s f c d : ℕ) → 0 < c → 0 < d → may_take l s f c ≡ may_take l s f d
same_test l s f c d h k = ap (λ b. b || (nat_lt s l.budget && nat_lt f l.files)) (some_cost c h ∙ sym (some_cost d k))

pub stop_alike : (further : Further) (root : StorageRoot) (os os' : List Opening) (l : Limits) (s f : ℕ) (ps : List Place) → IsStop l s f (items_at further root os ps) → IsStop l s f (items_at further root os' ps)
unfolding items_at
stop_alike further root os os' l s f [] h = tt
stop_alike further root os os' l s f (p ∷ ps) h =
    let hashed : is_hashed further root p ≡ true = stop_hashed further root os l s f p ps h in
    same_test l s f _ _ (hashed_costs further root (given_by (unread_of further root os') p) p hashed) (hashed_costs further root (given_by (unread_of further root os) p) p hashed) ∙ h
