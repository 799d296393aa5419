-- Laws of cuts and runs.
use Rattle.std.proofs.Common.{◌≡◌, ◌≢◌, ◌⊎◌, inl, inr, ℕ, zero, suc, ◌+◌, ◌<◌, ◌≤◌, ◌^◌, zero-le, List, [], ◌∷◌, ◌++◌, refl, sym, ◌∙◌, ap, ap₂, subst, true, false, Bool, ◌-◌, ◌*◌, ◌/◌, suc-mul, mul_comm, arith, All, map, take, drop, length, replicate, leb-true, leb-false, ltb-true, ltb-false, eqb-true, Some}
use Rattle.std.proofs.{lemmas.Bool.{and_cases, and_parts, eqb-false, lt-ltb}, lemmas.Nat.{le-div}}
use Rattle.std.proofs.Math.Nat.{lt-mul-div-succ, div-mul-le_self}
use Rattle.std.proofs.lemmas.List.{take-append-drop, take-replicate, length-replicate}
use Rattle.std.proofs.lemmas.List.Elements.{All-nil, All-cons, All-head, All-tail, All-weaker}
use Rattle.std.specs.Prelude.{cond, ◌==◌, ◌||◌, ◌&&◌, nat_lt, nat_le, slice_get}
use Rattle.ocfl_report.specs.Line.{Item}
use Rattle.ocfl_rules.specs.Audit.{total_cost}
use Rattle.ocfl_rules.specs.Runs.{Limits, files_of, total_files, may_take, cut_len, cut, left, IsCut, runs_after, runs, joined, IsAtLeast, FileLimitFits, FilesFit, of_budget, sum_of, budget_len, budget_cut, budget_left, budget_runs_after, budget_runs}

-- ---- the test before an item

false_not_true : false ≡ true → ⊥
false_not_true e = cc

-- an item that costs something is taken below both limits
pub taken_test : (l : Limits) (s f c : ℕ) → may_take l s f c ≡ true → 0 < c → (s < l.budget) × (f < l.files)
taken_test l s f c h p = by (c == 0) refl h
  where
    by : (t : Bool) → c == 0 ≡ t → (t || (nat_lt s l.budget && nat_lt f l.files)) ≡ true → (s < l.budget) × (f < l.files)
    by true e g = let z : c ≡ 0 = eqb-true c 0 e in absurd (omega (arith, z, p))
    by false e g = let both = and_parts (nat_lt s l.budget) (nat_lt f l.files) g in (ltb-true s l.budget both.0, ltb-true f l.files both.1)

-- an item that is left costs something, and one of the limits is reached before it
pub record IsLeft (l : Limits) (s f c : ℕ) : Type 0 where
  pub costs : 0 < c
  pub reached : (l.budget ≤ s) ⊎ (l.files ≤ f)

left_test : (l : Limits) (s f c : ℕ) → may_take l s f c ≡ false → IsLeft l s f c
left_test l s f c h = by (c == 0) refl h
  where
    which : (nat_lt s l.budget ≡ false) ⊎ (nat_lt f l.files ≡ false) → (l.budget ≤ s) ⊎ (l.files ≤ f)
    which (inl e) = inl (ltb-false s l.budget e)
    which (inr e) = inr (ltb-false f l.files e)

    by : (t : Bool) → c == 0 ≡ t → (t || (nat_lt s l.budget && nat_lt f l.files)) ≡ false → IsLeft l s f c
    by true e g = absurd (false_not_true (sym g))
    by false e g = let z : c ≢ 0 = eqb-false c 0 e in record { costs = omega (arith, z); reached = which (and_cases (nat_lt s l.budget) (nat_lt f l.files) g) }

-- ---- the cut is the greatest

module _ (l : Limits) where
  -- StaysWithin, if s has been spent before and f files started
  abbrev Within : ℕ → ℕ → List Item → ℕ → Type 0
  Within s f items n = (k : ℕ) (i : Item) → k < n → slice_get items k ≡ Some i → 0 < i.cost → (s + total_cost (take k items) < l.budget) × (f + total_files (take k items) < l.files)

  within_cut : (s f : ℕ) (items : List Item) → Within s f items (cut_len l s f items)
  within_cut s f [] = λ k i m e c. absurd (omega (arith, m))
  within_cut s f (x ∷ items) = by (may_take l s f x.cost) refl (within_cut (s + x.cost) (f + files_of x.cost) items)
    where
      by : (t : Bool) → may_take l s f x.cost ≡ t → Within (s + x.cost) (f + files_of x.cost) items (cut_len l (s + x.cost) (f + files_of x.cost) items)
          → Within s f (x ∷ items) (cond t (suc (cut_len l (s + x.cost) (f + files_of x.cost) items)) 0)
      by false e h = λ k i m g c. absurd (omega (arith, m))
      by true e h = at_place
        where
          same_cost : (i : Item) → Some x ≡ Some i → 0 < i.cost → 0 < x.cost
          same_cost i g c = let d : x ≡ i = cc in subst (λ y. 0 < y.cost) (sym d) c

          at_place : Within s f (x ∷ items) (suc (cut_len l (s + x.cost) (f + files_of x.cost) items))
          at_place zero i m g c = let r = taken_test l s f x.cost e (same_cost i g c) in (omega (arith, r.0), omega (arith, r.1))
          at_place (suc k) i m g c = let r = h k i (omega (arith, m)) g c in (omega (arith, r.0), omega (arith, r.1))

  cut_fits : (s f : ℕ) (items : List Item) → cut_len l s f items ≤ length items
  cut_fits s f [] = zero-le
  cut_fits s f (x ∷ items) = by (may_take l s f x.cost) (cut_fits (s + x.cost) (f + files_of x.cost) items)
    where
      by : (t : Bool) → cut_len l (s + x.cost) (f + files_of x.cost) items ≤ length items → cond t (suc (cut_len l (s + x.cost) (f + files_of x.cost) items)) 0 ≤ suc (length items)
      by true h = omega (arith, h)
      by false h = zero-le

  cut_greatest : (s f : ℕ) (items : List Item) (m : ℕ) → m ≤ length items → Within s f items m → m ≤ cut_len l s f items
  cut_greatest s f items zero n h = zero-le
  cut_greatest s f [] (suc m) n h = absurd (omega (arith, n))
  cut_greatest s f (x ∷ items) (suc m) n h = by (may_take l s f x.cost) refl (cut_greatest (s + x.cost) (f + files_of x.cost) items m (omega (arith, n)))
    where
      below : IsLeft l s f x.cost → suc m ≤ 0
      below p = let w = h zero x (omega arith) refl p.costs in over p.reached (omega (arith, w.0)) (omega (arith, w.1))
        where
          over : (l.budget ≤ s) ⊎ (l.files ≤ f) → s < l.budget → f < l.files → suc m ≤ 0
          over (inl r) q k = absurd (omega (arith, r, q))
          over (inr r) q k = absurd (omega (arith, r, k))

      by : (t : Bool) → may_take l s f x.cost ≡ t → (Within (s + x.cost) (f + files_of x.cost) items m → m ≤ cut_len l (s + x.cost) (f + files_of x.cost) items)
          → suc m ≤ cond t (suc (cut_len l (s + x.cost) (f + files_of x.cost) items)) 0
      by true e k = let r = k (λ j i lt g c. let w = h (suc j) i (omega (arith, lt)) g c in (omega (arith, w.0), omega (arith, w.1))) in omega (arith, r)
      by false e k = below (left_test l s f x.cost e)

  pub cut_is : (items : List Item) → IsCut items l (cut_len l 0 0 items)
  cut_is items = record {
    within = λ k i m e c. let w = within_cut 0 0 items k i m e c in (omega (arith, w.0), omega (arith, w.1));
    fits = cut_fits 0 0 items;
    greatest = λ m n h. cut_greatest 0 0 items m n (λ k i lt e c. let w = h k i lt e c in (omega (arith, w.0), omega (arith, w.1)));
  }

  -- a run that leaves items has spent its budget, or started all its files
  reaches : (s f : ℕ) (items : List Item) → drop (cut_len l s f items) items ≢ []
      → (l.budget ≤ s + total_cost (take (cut_len l s f items) items)) ⊎ (l.files ≤ f + total_files (take (cut_len l s f items) items))
  reaches s f [] h = absurd (h refl)
  reaches s f (i ∷ items) h = by (may_take l s f i.cost) refl h (reaches (s + i.cost) (f + files_of i.cost) items)
    where
      taken : ℕ
      taken = cut_len l (s + i.cost) (f + files_of i.cost) items

      one_more : (l.budget ≤ s + i.cost + total_cost (take taken items)) ⊎ (l.files ≤ f + files_of i.cost + total_files (take taken items))
          → (l.budget ≤ s + (i.cost + total_cost (take taken items))) ⊎ (l.files ≤ f + (files_of i.cost + total_files (take taken items)))
      one_more (inl m) = inl (omega (arith, m))
      one_more (inr m) = inr (omega (arith, m))

      none : (l.budget ≤ s) ⊎ (l.files ≤ f) → (l.budget ≤ s + 0) ⊎ (l.files ≤ f + 0)
      none (inl m) = inl (omega (arith, m))
      none (inr m) = inr (omega (arith, m))

      by : (t : Bool) → may_take l s f i.cost ≡ t → drop (cond t (suc taken) 0) (i ∷ items) ≢ []
          → (drop taken items ≢ [] → (l.budget ≤ s + i.cost + total_cost (take taken items)) ⊎ (l.files ≤ f + files_of i.cost + total_files (take taken items)))
          → (l.budget ≤ s + total_cost (take (cond t (suc taken) 0) (i ∷ items))) ⊎ (l.files ≤ f + total_files (take (cond t (suc taken) 0) (i ∷ items)))
      by true e g k = one_more (k g)
      by false e g k = none (left_test l s f i.cost e).reached

-- no other number is
pub cut_only : (items : List Item) (l : Limits) (n : ℕ) → IsCut items l n → n ≡ cut_len l 0 0 items
cut_only items l n h =
    let c = cut_is l items in
    let up = c.greatest n h.fits h.within in
    let down = h.greatest (cut_len l 0 0 items) c.fits c.within in
    omega (arith, up, down)

-- ---- costs and files of parts

pub cost_append : (xs ys : List Item) → total_cost (xs ++ ys) ≡ total_cost xs + total_cost ys
cost_append [] ys = omega arith
cost_append (x ∷ xs) ys = let m = cost_append xs ys in omega (arith, m)

pub files_append : (xs ys : List Item) → total_files (xs ++ ys) ≡ total_files xs + total_files ys
files_append [] ys = omega arith
files_append (x ∷ xs) ys = let m = files_append xs ys in omega (arith, m)

pub cut_and_left : (items : List Item) (l : Limits) → cut items l ++ left items l ≡ items
cut_and_left items l = take-append-drop _ items

costs_of_parts : (items : List Item) (l : Limits) → total_cost items ≡ total_cost (cut items l) + total_cost (left items l)
costs_of_parts items l = ap total_cost (sym (cut_and_left items l)) ∙ cost_append (cut items l) (left items l)

files_of_parts : (items : List Item) (l : Limits) → total_files items ≡ total_files (cut items l) + total_files (left items l)
files_of_parts items l = ap total_files (sym (cut_and_left items l)) ∙ files_append (cut items l) (left items l)

files_of_cost : (c : ℕ) → files_of c ≤ c
files_of_cost c = by (c == 0) refl
  where
    by : (t : Bool) → c == 0 ≡ t → cond t 0 1 ≤ c
    by true e = zero-le
    by false e = let z : c ≢ 0 = eqb-false c 0 e in omega (arith, z)

-- each file costs something
pub files_cost : (items : List Item) → total_files items ≤ total_cost items
files_cost [] = zero-le
files_cost (i ∷ items) = let m = files_cost items in let k = files_of_cost i.cost in omega (arith, m, k)

-- ---- if the files fit, the runs are those of budgets alone

and_true : (p q : Bool) → q ≡ true → (p && q) ≡ p
and_true true q e = e
and_true false q e = refl

same_test : (l : Limits) (s f c : ℕ) → f + files_of c ≤ l.files → may_take l s f c ≡ (c == 0 || nat_lt s l.budget)
same_test l s f c h = by (c == 0) h
  where
    by : (t : Bool) → f + cond t 0 1 ≤ l.files → (t || (nat_lt s l.budget && nat_lt f l.files)) ≡ (t || nat_lt s l.budget)
    by true g = refl
    by false g = and_true (nat_lt s l.budget) (nat_lt f l.files) (lt-ltb f l.files (omega (arith, g)))

same_len : (l : Limits) (s f : ℕ) (items : List Item) → f + total_files items ≤ l.files → cut_len l s f items ≡ budget_len l.budget s items
same_len l s f [] h = refl
same_len l s f (i ∷ items) h =
    ap₂ (λ t n. cond t (suc n) 0) (same_test l s f i.cost (omega (arith, h))) (same_len l (s + i.cost) (f + files_of i.cost) items (omega (arith, h)))

-- no more files were started than was spent: a limit that is no less than the budget is not reached
-- before it
spent_test : (l : Limits) (s f c : ℕ) → l.budget ≤ l.files → f ≤ s → may_take l s f c ≡ (c == 0 || nat_lt s l.budget)
spent_test l s f c fits h = by (c == 0)
  where
    below : (u : Bool) → nat_lt s l.budget ≡ u → (u && nat_lt f l.files) ≡ u
    below true e = let m = ltb-true s l.budget e in lt-ltb f l.files (omega (arith, m, fits, h))
    below false e = refl

    by : (t : Bool) → (t || (nat_lt s l.budget && nat_lt f l.files)) ≡ (t || nat_lt s l.budget)
    by true = refl
    by false = below (nat_lt s l.budget) refl

spent_len : (l : Limits) (s f : ℕ) (items : List Item) → l.budget ≤ l.files → f ≤ s → cut_len l s f items ≡ budget_len l.budget s items
spent_len l s f [] fits h = refl
spent_len l s f (i ∷ items) fits h =
    let k = files_of_cost i.cost in
    ap₂ (λ t n. cond t (suc n) 0) (spent_test l s f i.cost fits h) (spent_len l (s + i.cost) (f + files_of i.cost) items fits (omega (arith, h, k)))

same_whole : (l : Limits) (items : List Item) → FileLimitFits items l → cut_len l 0 0 items ≡ budget_len l.budget 0 items
same_whole l items (inl h) = spent_len l 0 0 items h (omega arith)
same_whole l items (inr h) = same_len l 0 0 items (omega (arith, h))

pub same_cut : (items : List Item) (l : Limits) → FileLimitFits items l → cut items l ≡ budget_cut items l.budget
same_cut items l h = ap (λ n. take n items) (same_whole l items h)

same_left : (items : List Item) (l : Limits) → FileLimitFits items l → left items l ≡ budget_left items l.budget
same_left items l h = ap (λ n. drop n items) (same_whole l items h)

-- what is left has no more files
still_fits : (items : List Item) (l k : Limits) → FileLimitFits items k → FileLimitFits (left items l) k
still_fits items l k (inl r) = inl r
still_fits items l k (inr r) = let m = files_of_parts items l in inr (omega (arith, m, r))

left_fits : (items : List Item) (l : Limits) (ls : List Limits) → FilesFit items ls → FilesFit (left items l) ls
left_fits items l ls h = All-weaker (FileLimitFits items) (FileLimitFits (left items l)) (still_fits items l) ls h

same_after : (ls : List Limits) (items : List Item) → FilesFit items ls → runs_after ls items ≡ budget_runs_after (map (λ l. l.budget) ls) items
same_after [] items h = refl
same_after (l ∷ ls) [] h = refl
same_after (l ∷ ls) (i ∷ items) h =
    let budgets : List ℕ = map (λ k. k.budget) ls in
    let fits = All-head (FileLimitFits (i ∷ items)) l ls h in
    ap₂ (λ c r. c ∷ r) (same_cut (i ∷ items) l fits)
    (same_after ls (left (i ∷ items) l) (left_fits (i ∷ items) l ls (All-tail (FileLimitFits (i ∷ items)) l ls h)) ∙ ap (budget_runs_after budgets) (same_left (i ∷ items) l fits))

pub same_runs : (items : List Item) (ls : List Limits) → FilesFit items ls → runs items ls ≡ budget_runs items (map (λ l. l.budget) ls)
same_runs items [] h = refl
same_runs items (l ∷ ls) h =
    let budgets : List ℕ = map (λ k. k.budget) ls in
    let fits = All-head (FileLimitFits items) l ls h in
    ap₂ (λ c r. c ∷ r) (same_cut items l fits) (same_after ls (left items l) (left_fits items l ls (All-tail (FileLimitFits items) l ls h)) ∙ ap (budget_runs_after budgets) (same_left items l fits))

-- a limit on files that is at least their number fits
pub as_many_fit : (items : List Item) (limits : List Limits) → All (λ l. total_files items ≤ l.files) limits → FilesFit items limits
as_many_fit items limits h = All-weaker (λ l. total_files items ≤ l.files) (FileLimitFits items) (λ l m. inr m) limits h

-- and so does one of 2^62 files, beside a budget of at most 2^62
pub most_fit : (items : List Item) (limits : List Limits) → All (λ l. l.budget ≤ 2 ^ 62) limits → All (λ l. l.files ≡ 2 ^ 62) limits → FilesFit items limits
most_fit items [] b f = All-nil (FileLimitFits items)
most_fit items (l ∷ ls) b f =
    let m = All-head (λ k. k.budget ≤ 2 ^ 62) l ls b in
    let e = All-head (λ k. k.files ≡ 2 ^ 62) l ls f in
    All-cons (FileLimitFits items) l ls (inl (subst (λ n. l.budget ≤ n) (sym e) m)) (most_fit items ls (All-tail (λ k. k.budget ≤ 2 ^ 62) l ls b) (All-tail (λ k. k.files ≡ 2 ^ 62) l ls f))

budgets_fit : (items : List Item) (bs : List ℕ) → All (λ b. b ≤ 2 ^ 62) bs → FilesFit items (map of_budget bs)
budgets_fit items [] h = All-nil (FileLimitFits items)
budgets_fit items (b ∷ bs) h = All-cons (FileLimitFits items) (of_budget b) (map of_budget bs) (inl (All-head (λ c. c ≤ 2 ^ 62) b bs h)) (budgets_fit items bs (All-tail (λ c. c ≤ 2 ^ 62) b bs h))

few_files_fit : (items : List Item) (bs : List ℕ) → total_files items ≤ 2 ^ 62 → FilesFit items (map of_budget bs)
few_files_fit items [] h = All-nil (FileLimitFits items)
few_files_fit items (b ∷ bs) h = All-cons (FileLimitFits items) (of_budget b) (map of_budget bs) (inr h) (few_files_fit items bs h)

budgets_back : (bs : List ℕ) → map (λ l. l.budget) (map of_budget bs) ≡ bs
budgets_back [] = refl
budgets_back (b ∷ bs) = ap (λ r. b ∷ r) (budgets_back bs)

runs_of_budgets : (items : List Item) (bs : List ℕ) → FilesFit items (map of_budget bs) → runs items (map of_budget bs) ≡ budget_runs items bs
runs_of_budgets items bs h = same_runs items (map of_budget bs) h ∙ ap (budget_runs items) (budgets_back bs)

pub same_budgets : (items : List Item) (bs : List ℕ) → All (λ b. b ≤ 2 ^ 62) bs → runs items (map of_budget bs) ≡ budget_runs items bs
same_budgets items bs h = runs_of_budgets items bs (budgets_fit items bs h)

pub same_few_files : (items : List Item) (bs : List ℕ) → total_files items ≤ 2 ^ 62 → runs items (map of_budget bs) ≡ budget_runs items bs
same_few_files items bs h = runs_of_budgets items bs (few_files_fit items bs h)

-- ---- budgets alone

-- the test by a budget alone
abbrev pub affords : ℕ → ℕ → ℕ → Bool
affords b s c = c == 0 || nat_lt s b

pub left_over : (b s c : ℕ) → affords b s c ≡ false → (0 < c) × (b ≤ s)
left_over b s c h = by (c == 0) refl h
  where
    by : (t : Bool) → c == 0 ≡ t → (t || nat_lt s b) ≡ false → (0 < c) × (b ≤ s)
    by true e g = absurd (false_not_true (sym g))
    by false e g = let z : c ≢ 0 = eqb-false c 0 e in (omega (arith, z), ltb-false s b g)

module _ (b : ℕ) where
  -- a run that leaves items has spent its budget
  took_spends : (s : ℕ) (items : List Item) → drop (budget_len b s items) items ≢ [] → b ≤ s + total_cost (take (budget_len b s items) items)
  took_spends s [] h = absurd (h refl)
  took_spends s (i ∷ items) h = by (affords b s i.cost) refl h (took_spends (s + i.cost) items)
    where
      by : (t : Bool) → affords b s i.cost ≡ t → drop (cond t (suc (budget_len b (s + i.cost) items)) 0) (i ∷ items) ≢ []
          → (drop (budget_len b (s + i.cost) items) items ≢ [] → b ≤ s + i.cost + total_cost (take (budget_len b (s + i.cost) items) items))
          → b ≤ s + total_cost (take (cond t (suc (budget_len b (s + i.cost) items)) 0) (i ∷ items))
      by true e g k = let m = k g in omega (arith, m)
      by false e g k = let m = (left_over b s i.cost e).1 in omega (arith, m)

  -- what is left begins with an item that costs something
  left_costs : (s : ℕ) (items : List Item) → drop (budget_len b s items) items ≢ [] → 0 < total_cost (drop (budget_len b s items) items)
  left_costs s [] h = absurd (h refl)
  left_costs s (i ∷ items) h = by (affords b s i.cost) refl h (left_costs (s + i.cost) items)
    where
      by : (t : Bool) → affords b s i.cost ≡ t → drop (cond t (suc (budget_len b (s + i.cost) items)) 0) (i ∷ items) ≢ []
          → (drop (budget_len b (s + i.cost) items) items ≢ [] → 0 < total_cost (drop (budget_len b (s + i.cost) items) items))
          → 0 < total_cost (drop (cond t (suc (budget_len b (s + i.cost) items)) 0) (i ∷ items))
      by true e g k = k g
      by false e g k = let m = (left_over b s i.cost e).0 in omega (arith, m)

budget_parts : (items : List Item) (b : ℕ) → budget_cut items b ++ budget_left items b ≡ items
budget_parts items b = take-append-drop _ items

cost_split : (items : List Item) (b : ℕ) → total_cost items ≡ total_cost (budget_cut items b) + total_cost (budget_left items b)
cost_split items b = ap total_cost (sym (budget_parts items b)) ∙ cost_append (budget_cut items b) (budget_left items b)

-- nothing, or something that costs
abbrev HasCost : List Item → Type 0
HasCost items = (items ≡ []) ⊎ (0 < total_cost items)

left_has_cost : (items : List Item) (b : ℕ) → HasCost (budget_left items b)
left_has_cost items b = by (budget_left items b) refl
  where
    by : (xs : List Item) → budget_left items b ≡ xs → HasCost (budget_left items b)
    by [] e = inl e
    by (x ∷ xs) e = inr (left_costs b 0 items (λ f. cc))

-- if something is left, the cut has spent its budget, and so the rest costs no more than the
-- later budgets
rest_fits : (items : List Item) (b m : ℕ) → total_cost items ≤ b + m → HasCost (budget_left items b) → (budget_left items b ≡ []) ⊎ (total_cost (budget_left items b) ≤ m)
rest_fits items b m h (inl e) = inl e
rest_fits items b m h (inr c) =
    let spent : b ≤ 0 + total_cost (budget_cut items b) = took_spends b 0 items (λ e. absurd (not_pos (subst (λ xs. 0 < total_cost xs) e c))) in
    let split = cost_split items b in
    inr (omega (arith, h, spent, split))
  where
    not_pos : 0 < 0 → ⊥
    not_pos p = omega (arith, p)

joined_nothing : (bs : List ℕ) → joined (budget_runs_after bs []) ≡ []
joined_nothing [] = refl
joined_nothing (b ∷ bs) = refl

-- if the budgets sum to the cost, the runs take all
joined_after : (bs : List ℕ) (items : List Item) → HasCost items → total_cost items ≤ sum_of bs → joined (budget_runs_after bs items) ≡ items
joined_after [] [] c h = refl
joined_after [] (i ∷ items) (inl e) h = absurd cc
joined_after [] (i ∷ items) (inr c) h = absurd (omega (arith, c, h))
joined_after (b ∷ bs) [] c h = refl
joined_after (b ∷ bs) (i ∷ items) c h =
    ap (λ xs. budget_cut (i ∷ items) b ++ xs)
    (by (rest_fits (i ∷ items) b (sum_of bs) h (left_has_cost (i ∷ items) b)) (joined_after bs (budget_left (i ∷ items) b) (left_has_cost (i ∷ items) b))) ∙ budget_parts (i ∷ items) b
  where
    by : (budget_left (i ∷ items) b ≡ []) ⊎ (total_cost (budget_left (i ∷ items) b) ≤ sum_of bs)
        → (total_cost (budget_left (i ∷ items) b) ≤ sum_of bs → joined (budget_runs_after bs (budget_left (i ∷ items) b)) ≡ budget_left (i ∷ items) b)
        → joined (budget_runs_after bs (budget_left (i ∷ items) b)) ≡ budget_left (i ∷ items) b
    by (inl e) k = ap (λ xs. joined (budget_runs_after bs xs)) e ∙ joined_nothing bs ∙ sym e
    by (inr m) k = k m

pub runs_take_all : (b : ℕ) (bs : List ℕ) (items : List Item) → total_cost items ≤ b + sum_of bs → joined (budget_runs items (b ∷ bs)) ≡ items
runs_take_all b bs items h =
    ap (λ xs. budget_cut items b ++ xs) (by (rest_fits items b (sum_of bs) h (left_has_cost items b))) ∙ budget_parts items b
  where
    by : (budget_left items b ≡ []) ⊎ (total_cost (budget_left items b) ≤ sum_of bs) → joined (budget_runs_after bs (budget_left items b)) ≡ budget_left items b
    by (inl e) = ap (λ xs. joined (budget_runs_after bs xs)) e ∙ joined_nothing bs ∙ sym e
    by (inr m) = joined_after bs (budget_left items b) (left_has_cost items b) m

-- ---- equal budgets alone

pub cancel : (xs ys zs : List Item) → xs ++ ys ≡ xs ++ zs → ys ≡ zs
cancel [] ys zs e = e
cancel (x ∷ xs) ys zs e = cancel xs ys zs (let f : xs ++ ys ≡ xs ++ zs = cc in f)

-- if the first budgets take all, no later one is used
after_short : (k : ℕ) (bs : List ℕ) (items : List Item) → joined (budget_runs_after (take k bs) items) ≡ items → budget_runs_after bs items ≡ budget_runs_after (take k bs) items
after_short zero [] items e = refl
after_short (suc k) [] items e = refl
after_short zero (b ∷ bs) [] e = refl
after_short zero (b ∷ bs) (i ∷ items) e = absurd cc
after_short (suc k) (b ∷ bs) [] e = refl
after_short (suc k) (b ∷ bs) (i ∷ items) e =
    ap (λ xs. budget_cut (i ∷ items) b ∷ xs) (after_short k bs (budget_left (i ∷ items) b) (cancel (budget_cut (i ∷ items) b) _ _ (e ∙ sym (budget_parts (i ∷ items) b))))

after_count : (bs : List ℕ) (items : List Item) → length (budget_runs_after bs items) ≤ length bs
after_count [] items = omega arith
after_count (b ∷ bs) [] = omega arith
after_count (b ∷ bs) (i ∷ items) = let e = after_count bs (budget_left (i ∷ items) b) in omega (arith, e)

pub runs_count : (bs : List ℕ) (items : List Item) → length (budget_runs items bs) ≤ length bs
runs_count [] items = omega arith
runs_count (b ∷ bs) items = let e = after_count bs (budget_left items b) in omega (arith, e)

take_count : (k : ℕ) (bs : List ℕ) → length (take k bs) ≤ k
take_count zero bs = omega arith
take_count (suc k) [] = omega arith
take_count (suc k) (b ∷ bs) = let e = take_count k bs in omega (arith, e)

-- if the first k budgets sum to the cost, at most k runs take all
pub few_runs : (k : ℕ) (bs : List ℕ) (items : List Item) → 1 ≤ k → k ≤ length bs → total_cost items ≤ sum_of (take k bs) → (joined (budget_runs items bs) ≡ items) × (length (budget_runs items bs) ≤ k)
few_runs zero bs items l m h = absurd (omega (arith, l))
few_runs (suc k) [] items l m h = absurd (omega (arith, m))
few_runs (suc k) (b ∷ bs) items l m h =
    let all : joined (budget_runs items (b ∷ take k bs)) ≡ items = runs_take_all b (take k bs) items h in
    let same : budget_runs items (b ∷ bs) ≡ budget_runs items (b ∷ take k bs) =
    ap (λ xs. budget_cut items b ∷ xs) (after_short k bs (budget_left items b) (cancel (budget_cut items b) _ _ (all ∙ sym (budget_parts items b)))) in
    let n = after_count (take k bs) (budget_left items b) in
    let t = take_count k bs in
    let e : length (budget_runs items (b ∷ bs)) ≡ suc (length (budget_runs_after (take k bs) (budget_left items b))) = ap length same in
    (ap joined same ∙ all, omega (arith, n, t, e))

sum_of_equal : (k b : ℕ) → sum_of (replicate k b) ≡ k * b
sum_of_equal zero b = omega arith
sum_of_equal (suc k) b = let e = sum_of_equal k b in let m = suc-mul k b in omega (arith, e, m)

-- a number is at most its part by b, rounded up, times b
rounded_up : (t b : ℕ) → 1 ≤ b → 1 ≤ t → t ≤ ((t - 1) / b + 1) * b
rounded_up t b some l =
    let m : t - 1 < b * ((t - 1) / b + 1) = lt-mul-div-succ (t - 1) some in
    let c : b * ((t - 1) / b + 1) ≡ ((t - 1) / b + 1) * b = mul_comm b ((t - 1) / b + 1) in
    omega (arith, m, c, l)

equal_enough : (items : List Item) (b k n : ℕ) → k ≤ n → total_cost items ≤ k * b → total_cost items ≤ sum_of (take k (replicate n b))
equal_enough items b k n l h = let e : sum_of (take k (replicate n b)) ≡ k * b = ap sum_of (take-replicate k n b l) ∙ sum_of_equal k b in omega (arith, e, h)

equal_runs : (items : List Item) (b k n : ℕ) → 1 ≤ k → k ≤ n → total_cost items ≤ k * b → (joined (budget_runs items (replicate n b)) ≡ items) × (length (budget_runs items (replicate n b)) ≤ k)
equal_runs items b k n some l h = few_runs k (replicate n b) items some (let e = length-replicate n b in omega (arith, e, l)) (equal_enough items b k n l h)

pub equal_whole : (items : List Item) (b n : ℕ) → 1 ≤ b → 1 ≤ total_cost items → (total_cost items - 1) / b + 1 ≤ n → joined (budget_runs items (replicate n b)) ≡ items
equal_whole items b n some l fits = (equal_runs items b ((total_cost items - 1) / b + 1) n (omega arith) fits (rounded_up (total_cost items) b some l)).0

pub equal_few : (items : List Item) (b n : ℕ) → 1 ≤ b → 1 ≤ total_cost items → length (budget_runs items (replicate n b)) ≤ (total_cost items - 1) / b + 1
equal_few items b n some l = by (nat_le ((total_cost items - 1) / b + 1) n) refl
  where
    by : (t : Bool) → nat_le ((total_cost items - 1) / b + 1) n ≡ t → length (budget_runs items (replicate n b)) ≤ (total_cost items - 1) / b + 1
    by true e = (equal_runs items b ((total_cost items - 1) / b + 1) n (omega arith) (leb-true _ _ e) (rounded_up (total_cost items) b some l)).1
    by false e = let c = runs_count (replicate n b) items in let r = length-replicate n b in let m = leb-false _ _ e in omega (arith, c, r, m)

pub free_whole : (items : List Item) (b n : ℕ) → total_cost items ≡ 0 → 1 ≤ n → joined (budget_runs items (replicate n b)) ≡ items
free_whole items b n free l = (equal_runs items b 1 n (omega arith) l (omega (arith, free))).0

pub free_once : (items : List Item) (b n : ℕ) → total_cost items ≡ 0 → 1 ≤ n → length (budget_runs items (replicate n b)) ≡ 1
free_once items b zero free l = absurd (omega (arith, l))
free_once items b (suc n) free l =
    let k = (equal_runs items b 1 (suc n) (omega arith) (omega arith) (omega (arith, free))).1 in
    let e : length (budget_runs items (replicate (suc n) b)) ≡ suc (length (budget_runs_after (replicate n b) (budget_left items b))) = refl in
    omega (arith, k, e)

-- ---- the same of limits under which the files fit

pub limits_join : (limits : List Limits) (items : List Item) → 1 ≤ length limits → FilesFit items limits → total_cost items ≤ sum_of (map (λ l. l.budget) limits) → joined (runs items limits) ≡ items
limits_join [] items some fit h = absurd (omega (arith, some))
limits_join (l ∷ ls) items some fit h = ap joined (same_runs items (l ∷ ls) fit) ∙ runs_take_all l.budget (map (λ k. k.budget) ls) items h

length-budgets : (limits : List Limits) → length (map (λ l. l.budget) limits) ≡ length limits
length-budgets [] = refl
length-budgets (l ∷ ls) = ap suc (length-budgets ls)

pub limits_few : (k : ℕ) (limits : List Limits) (items : List Item) → 1 ≤ k → k ≤ length limits → FilesFit items limits
    → total_cost items ≤ sum_of (take k (map (λ l. l.budget) limits)) → length (runs items limits) ≤ k
limits_few k limits items some fits fit h =
    let e : length (runs items limits) ≡ length (budget_runs items (map (λ l. l.budget) limits)) = ap length (same_runs items limits fit) in
    let m = (few_runs k (map (λ l. l.budget) limits) items some (let n = length-budgets limits in omega (arith, n, fits)) h).1 in
    omega (arith, e, m)

fits_equal : (items : List Item) (l : Limits) (n : ℕ) → FileLimitFits items l → FilesFit items (replicate n l)
fits_equal items l zero h = All-nil (FileLimitFits items)
fits_equal items l (suc n) h = All-cons (FileLimitFits items) l (replicate n l) h (fits_equal items l n h)

budgets_equal : (l : Limits) (n : ℕ) → map (λ k. k.budget) (replicate n l) ≡ replicate n l.budget
budgets_equal l zero = refl
budgets_equal l (suc n) = ap (λ r. l.budget ∷ r) (budgets_equal l n)

pub same_equal : (items : List Item) (l : Limits) (n : ℕ) → FileLimitFits items l → runs items (replicate n l) ≡ budget_runs items (replicate n l.budget)
same_equal items l n h = same_runs items (replicate n l) (fits_equal items l n h) ∙ ap (budget_runs items) (budgets_equal l n)

pub same_few : (items : List Item) (l : Limits) (n : ℕ) → FileLimitFits items l → 1 ≤ l.budget → 1 ≤ total_cost items → length (runs items (replicate n l)) ≤ (total_cost items - 1) / l.budget + 1
same_few items l n h some c =
    let e : length (runs items (replicate n l)) ≡ length (budget_runs items (replicate n l.budget)) = ap length (same_equal items l n h) in
    let m = equal_few items l.budget n some c in
    omega (arith, e, m)

pub same_join : (items : List Item) (l : Limits) (n : ℕ) → FileLimitFits items l → 1 ≤ l.budget → 1 ≤ total_cost items
    → (total_cost items - 1) / l.budget + 1 ≤ n → joined (runs items (replicate n l)) ≡ items
same_join items l n h some c fits = ap joined (same_equal items l n h) ∙ equal_whole items l.budget n some c fits

no_files : (items : List Item) (l : Limits) → total_cost items ≡ 0 → FileLimitFits items l
no_files items l free = let m = files_cost items in inr (omega (arith, m, free))

pub free_join : (items : List Item) (l : Limits) (n : ℕ) → total_cost items ≡ 0 → 1 ≤ n → joined (runs items (replicate n l)) ≡ items
free_join items l n free some = ap joined (same_equal items l n (no_files items l free)) ∙ free_whole items l.budget n free some

pub free_run : (items : List Item) (l : Limits) (n : ℕ) → total_cost items ≡ 0 → 1 ≤ n → length (runs items (replicate n l)) ≡ 1
free_run items l n free some = ap length (same_equal items l n (no_files items l free)) ∙ free_once items l.budget n free some

-- ---- limits that are all large enough

-- a part that is at least the divisor counts for one
one_less : (b c u : ℕ) → 1 ≤ b → b ≤ c → u / b + 1 ≤ (c + u) / b
one_less b c u some h =
    let m : u / b * b ≤ u = div-mul-le_self u b in
    let e = suc-mul (u / b) b in
    le-div (u / b + 1) (c + u) b some (omega (arith, m, e, h))

no_more : (b c u : ℕ) → 1 ≤ b → u / b ≤ (c + u) / b
no_more b c u some = let m : u / b * b ≤ u = div-mul-le_self u b in le-div (u / b) (c + u) b some (omega (arith, m))

module _ (b n : ℕ) (some_budget : 1 ≤ b) (some_files : 1 ≤ n) where
  -- how many runs may leave something
  abbrev due : List Item → ℕ
  due items = total_cost items / b + total_files items / n

  -- each run that leaves something makes them one less
  due_less : (items : List Item) (l : Limits) → IsAtLeast b n l → left items l ≢ [] → due (left items l) + 1 ≤ due items
  due_less items l h more = subst (λ c. due (left items l) + 1 ≤ c / b + total_files items / n) (sym (costs_of_parts items l))
      (subst (λ f. due (left items l) + 1 ≤ (total_cost (cut items l) + total_cost (left items l)) / b + f / n) (sym (files_of_parts items l)) (by (reaches l 0 0 items more)))
    where
      cost : ℕ
      cost = total_cost (cut items l)

      rest : ℕ
      rest = total_cost (left items l)

      files : ℕ
      files = total_files (cut items l)

      later : ℕ
      later = total_files (left items l)

      by : (l.budget ≤ 0 + cost) ⊎ (l.files ≤ 0 + files) → rest / b + later / n + 1 ≤ (cost + rest) / b + (files + later) / n
      by (inl m) = let k = h.budget in let p = one_less b cost rest some_budget (omega (arith, m, k)) in let q = no_more n files later some_files in omega (arith, p, q)
      by (inr m) = let k = h.files in let p = no_more b cost rest some_budget in let q = one_less n files later some_files (omega (arith, m, k)) in omega (arith, p, q)

  nothing_joined : (ls : List Limits) → joined (runs_after ls []) ≡ []
  nothing_joined [] = refl
  nothing_joined (l ∷ ls) = refl

  nothing_runs : (ls : List Limits) → length (runs_after ls []) ≡ 0
  nothing_runs [] = refl
  nothing_runs (l ∷ ls) = refl

  -- nothing is left, or something is
  abbrev IsLeftOver : List Item → Type 0
  IsLeftOver items = (items ≡ []) ⊎ (items ≢ [])

  left_over_or : (items : List Item) → IsLeftOver items
  left_over_or [] = inl refl
  left_over_or (i ∷ items) = inr (λ e. cc)

  whole_after : (ls : List Limits) (items : List Item) → All (IsAtLeast b n) ls → due items + 1 ≤ length ls → joined (runs_after ls items) ≡ items
  whole_after [] items a h = absurd (omega (arith, h))
  whole_after (l ∷ ls) [] a h = refl
  whole_after (l ∷ ls) (i ∷ items) a h =
      ap (λ xs. cut (i ∷ items) l ++ xs) (by (left_over_or (left (i ∷ items) l)) (whole_after ls (left (i ∷ items) l) (All-tail (IsAtLeast b n) l ls a))) ∙ cut_and_left (i ∷ items) l
    where
      by : IsLeftOver (left (i ∷ items) l) → (due (left (i ∷ items) l) + 1 ≤ length ls → joined (runs_after ls (left (i ∷ items) l)) ≡ left (i ∷ items) l)
          → joined (runs_after ls (left (i ∷ items) l)) ≡ left (i ∷ items) l
      by (inl e) k = ap (λ xs. joined (runs_after ls xs)) e ∙ nothing_joined ls ∙ sym e
      by (inr m) k = let d = due_less (i ∷ items) l (All-head (IsAtLeast b n) l ls a) m in k (omega (arith, d, h))

  few_after : (ls : List Limits) (items : List Item) → All (IsAtLeast b n) ls → length (runs_after ls items) ≤ due items + 1
  few_after [] items a = zero-le
  few_after (l ∷ ls) [] a = zero-le
  few_after (l ∷ ls) (i ∷ items) a = by (left_over_or (left (i ∷ items) l)) (few_after ls (left (i ∷ items) l) (All-tail (IsAtLeast b n) l ls a))
    where
      by : IsLeftOver (left (i ∷ items) l) → length (runs_after ls (left (i ∷ items) l)) ≤ due (left (i ∷ items) l) + 1 → suc (length (runs_after ls (left (i ∷ items) l))) ≤ due (i ∷ items) + 1
      by (inl e) k = let z : length (runs_after ls (left (i ∷ items) l)) ≡ 0 = ap (λ xs. length (runs_after ls xs)) e ∙ nothing_runs ls in omega (arith, z)
      by (inr m) k = let d = due_less (i ∷ items) l (All-head (IsAtLeast b n) l ls a) m in omega (arith, d, k)

  pub large_whole : (limits : List Limits) (items : List Item) → All (IsAtLeast b n) limits → total_cost items / b + total_files items / n + 1 ≤ length limits → joined (runs items limits) ≡ items
  large_whole [] items a h = absurd (omega (arith, h))
  large_whole (l ∷ ls) [] a h = nothing_joined ls
  large_whole (l ∷ ls) (i ∷ items) a h = whole_after (l ∷ ls) (i ∷ items) a h

  pub large_few : (limits : List Limits) (items : List Item) → All (IsAtLeast b n) limits → length (runs items limits) ≤ total_cost items / b + total_files items / n + 1
  large_few [] items a = zero-le
  large_few (l ∷ ls) [] a = let z = nothing_runs ls in omega (arith, z)
  large_few (l ∷ ls) (i ∷ items) a = few_after (l ∷ ls) (i ∷ items) a
