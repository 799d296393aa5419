-- What a crash may leave over several calls.
use Rattle.std.proofs.Common.{◌≡◌, ◌⊎◌, inl, inr, ℕ, ◌≤◌, List, refl, sym, ap, subst, ◌∙◌, arith}
use Rattle.ocfl_compare.specs.declared.change.ChangeAt.{ChangeAt}
use Rattle.ocfl_say.specs.Said.{Said}
use Rattle.ocfl_accounts.specs.{Changes.{Says}, Kept.{Kept, account_of, with_account}, Crash.{Step, Same, MayPut, Outcomes, After, Passes}}
use Rattle.ocfl_accounts.specs.{Telling.{IsAccountSaid, MayAccount}, declared.pair.Pair.{Pair}}

-- where the account of what was said may be put, the account of the cycle may
pub may_account : (k : Kept) (cycle : ℕ) (says : Says) (old new : Said) (pair : Pair) (changes : List ChangeAt) → IsAccountSaid k cycle says old new pair changes
    → pair.closed.cycle ≡ cycle → (x y : Kept) → MayPut (account_of pair.closed.cycle changes) x y → MayAccount k cycle says old new x y
may_account k cycle says old new pair changes said e x y (inl f) = inl f
may_account k cycle says old new pair changes said e x y (inr f) = inr (pair, (changes, (said, f ∙ ap (λ n. with_account (account_of n changes) x) e)))

module _ {F : Type 0} (may_leave : F → Outcomes) (moment : F → ℕ) (left_since : F → ℕ → Outcomes) where
  -- two calls, and a step that both steps together are, and the first one alone
  pub passes_then : (first then step : Step) → ((x y : Kept) → first x y → step x y) → ((x y z : Kept) → first x y → then y z → step x z)
      → (a b c : F) → Passes may_leave moment left_since first a b → Passes may_leave moment left_since then b c → Passes may_leave moment left_since step a c
  passes_then first then step alone both a b c p q = record {
    later = let one = p.later in let two = q.later in omega (arith, one, two);
    now = λ k m. back k (q.now k m);
    meanwhile = λ t k l m. from t k l (q.meanwhile t k (let one = p.later in omega (arith, one, l)) m);
    keeps = λ t k l m. q.keeps t k (let one = p.later in omega (arith, one, l)) (p.keeps t k l m);
  }
    where
      back : (k : Kept) → After then (may_leave b) k → After step (may_leave a) k
      back k h = let e = p.now h.0 h.1 in (e.0, e.1, both e.0 h.0 k e.2 h.2)

      earlier : (t : ℕ) (k : Kept) → left_since a t k ⊎ After first (may_leave a) k → left_since a t k ⊎ After step (may_leave a) k
      earlier t k (inl m) = inl m
      earlier t k (inr h) = inr (h.0, h.1, alone h.0 k h.2)

      from : (t : ℕ) (k : Kept) → t ≤ moment a → left_since b t k ⊎ After then (may_leave b) k → left_since a t k ⊎ After step (may_leave a) k
      from t k l (inl m) = earlier t k (p.meanwhile t k l m)
      from t k l (inr h) = inr (back k h)

  pub nothing_passes : (a : F) → Passes may_leave moment left_since Same a a
  nothing_passes a = record { later = omega arith; now = λ k m. (k, m, refl); meanwhile = λ t k l m. inl m; keeps = λ t k l m. m }

  -- a call that changes nothing, and another one
  pub same_then : (step : Step) → ((k : Kept) → step k k) → (a b c : F) → Passes may_leave moment left_since Same a b → Passes may_leave moment left_since step b c → Passes may_leave moment left_since step a c
  same_then step whatever a b c p q = passes_then Same step step (λ x y e. subst (step x) (sym e) (whatever x)) (λ x y z e s. subst (λ d. step d z) e s) a b c p q

  -- a call, and another one that changes nothing
  pub then_same : (step : Step) → (a b c : F) → Passes may_leave moment left_since step a b → Passes may_leave moment left_since Same b c → Passes may_leave moment left_since step a c
  then_same step a b c p q = passes_then step Same step (λ x y s. s) (λ x y z s e. subst (step x) (sym e) s) a b c p q

  pub two_same : (a b c : F) → Passes may_leave moment left_since Same a b → Passes may_leave moment left_since Same b c → Passes may_leave moment left_since Same a c
  two_same a b c p q = same_then Same (λ k. refl) a b c p q

  -- by a step that allows more
  pub weaker : (step other : Step) → ((d k : Kept) → step d k → other d k) → (a b : F) → Passes may_leave moment left_since step a b → Passes may_leave moment left_since other a b
  weaker step other more a b p = passes_then step Same other more (λ x y z s e. subst (other x) (sym e) (more x y s)) a b b p (nothing_passes b)

  -- two calls that change nothing, and one that may put the account of what was said
  pub account_passes : (k : Kept) (cycle : ℕ) (says : Says) (old new : Said) (pair : Pair) (changes : List ChangeAt) → IsAccountSaid k cycle says old new pair changes
      → pair.closed.cycle ≡ cycle → (a b c d : F) → Passes may_leave moment left_since Same a b → Passes may_leave moment left_since Same b c
      → Passes may_leave moment left_since (MayPut (account_of pair.closed.cycle changes)) c d → Passes may_leave moment left_since (MayAccount k cycle says old new) a d
  account_passes k cycle says old new pair changes said e a b c d p q r =
      same_then (MayAccount k cycle says old new) (λ x. inl refl) a c d (two_same a b c p q)
      (weaker (MayPut (account_of pair.closed.cycle changes)) (MayAccount k cycle says old new) (may_account k cycle says old new pair changes said e) c d r)
