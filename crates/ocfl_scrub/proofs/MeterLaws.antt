-- What a run costs on every store.
use Rattle.std.proofs.Common.{◌≡◌, ℕ, ◌+◌, ◌<◌, ◌≤◌, ◌^◌, List, [], ◌∷◌, ◌++◌, length, refl, subst, arith, eqb-true, true, false, Bool, sym, ◌∙◌, ap}
use Rattle.std.specs.Prelude.{cond, ◌==◌}
use Rattle.ocfl_rules.specs.Runs.{Limits, files_of, sum_of}
use Rattle.ocfl_item.specs.Judging.{CostFits}
use Rattle.ocfl_scrub.specs.Running.{ArePaid, IsPaid}

pub paid_none : (l : Limits) → IsPaid l 0 0
paid_none l = record { costs = []; paid = tt; spent_is = refl; files_is = refl }

pub paid_start : (l : Limits) (spent files : ℕ) → spent ≡ 0 → files ≡ 0 → IsPaid l spent files
paid_start l spent files e f = subst (λ n. IsPaid l n files) (sym e) (subst (λ n. IsPaid l 0 n) (sym f) (paid_none l))

sum_more : (cs : List ℕ) (c : ℕ) → sum_of (cs ++ c ∷ []) ≡ sum_of cs + c
sum_more [] c = omega arith
sum_more (d ∷ cs) c = let e = sum_more cs c in omega (arith, e)

length_more : (cs : List ℕ) (c : ℕ) → length (cs ++ c ∷ []) ≡ length cs + 1
length_more [] c = omega arith
length_more (d ∷ cs) c = let e = length_more cs c in omega (arith, e)

costs_more : (l : Limits) (s f : ℕ) (cs : List ℕ) (c : ℕ) → ArePaid l s f cs → s + sum_of cs < l.budget → f + length cs < l.files → 1 ≤ c → c ≤ 2 ^ 62 + 1 → ArePaid l s f (cs ++ c ∷ [])
costs_more l s f [] c h b n m k = (m, (k, (omega (arith, b), (omega (arith, n), tt))))
costs_more l s f (d ∷ cs) c h b n m k = (h.0, (h.1.0, (h.1.1.0, (h.1.1.1.0, costs_more l (s + d) (f + 1) cs c h.1.1.1.1 (omega (arith, b)) (omega (arith, n)) m k))))

abbrev files_by : Bool → ℕ
files_by t = cond t 0 1

file_of : (c : ℕ) → 1 ≤ c → files_of c ≡ 1
file_of c h = by (c == 0) refl
  where
    by : (t : Bool) → c == 0 ≡ t → files_by t ≡ 1
    by true e = let z : c ≡ 0 = eqb-true c 0 e in absurd (omega (arith, z, h))
    by false e = refl

pub paid_more : (l : Limits) (spent files c : ℕ) → IsPaid l spent files → spent < l.budget → files < l.files → 1 ≤ c → c ≤ 2 ^ 62 + 1 → IsPaid l (spent + c) (files + 1)
paid_more l spent files c h b n m k =
    let s = h.spent_is in
    let f = h.files_is in
    record {
      costs = h.costs ++ c ∷ [];
      paid = costs_more l 0 0 h.costs c h.paid (omega (arith, b, s)) (omega (arith, n, f)) m k;
      spent_is = let e = sum_more h.costs c in omega (arith, e, s);
      files_is = let e = length_more h.costs c in omega (arith, e, f);
    }

-- what an item costs is charged
pub paid_item : (l : Limits) (spent files cost charged started : ℕ) (hashed : Bool) → IsPaid l spent files → CostFits hashed cost → (hashed ≡ true → (spent < l.budget) × (files < l.files))
    → charged ≡ spent + cost → started ≡ files + files_of cost → IsPaid l charged started
paid_item l spent files cost charged started true h c may e g =
    let m = may refl in
    let i : files + files_of cost ≡ files + 1 = ap (λ n. files + n) (file_of cost c.0) in
    subst (λ n. IsPaid l n started) (sym e) (subst (λ n. IsPaid l (spent + cost) n) (sym (g ∙ i)) (paid_more l spent files cost h m.0 m.1 c.0 c.1))
paid_item l spent files cost charged started false h c may e g =
    let z : spent ≡ charged = omega (arith, c, e) in
    let i : files + files_of cost ≡ files + 0 = ap (λ n. files + files_of n) c in
    let j : files ≡ started = omega (arith, g, i) in
    subst (λ n. IsPaid l n started) z (subst (λ n. IsPaid l spent n) j h)

costs_within : (l : Limits) (s f : ℕ) (cs : List ℕ) → ArePaid l s f cs → s ≤ l.budget + 2 ^ 62 → s + sum_of cs ≤ l.budget + 2 ^ 62
costs_within l s f [] h k = omega (arith, k)
costs_within l s f (c ∷ cs) h k =
    let a = h.1.0 in
    let b = h.1.1.0 in
    let e = costs_within l (s + c) (f + 1) cs h.1.1.1.1 (omega (arith, a, b)) in
    omega (arith, e)

-- no more than one last file passes the budget
pub paid_within : (l : Limits) (spent files : ℕ) → IsPaid l spent files → spent ≤ l.budget + 2 ^ 62
paid_within l spent files h = let e = costs_within l 0 0 h.costs h.paid (omega arith) in let f = h.spent_is in omega (arith, e, f)

costs_count : (l : Limits) (s f : ℕ) (cs : List ℕ) → ArePaid l s f cs → length cs ≤ sum_of cs
costs_count l s f [] h = omega arith
costs_count l s f (c ∷ cs) h = let a = h.0 in let e = costs_count l (s + c) (f + 1) cs h.1.1.1.1 in omega (arith, a, e)

-- each file costs something
pub paid_files : (l : Limits) (spent files : ℕ) → IsPaid l spent files → files ≤ spent
paid_files l spent files h = let e = costs_count l 0 0 h.costs h.paid in let s = h.spent_is in let f = h.files_is in omega (arith, e, s, f)
