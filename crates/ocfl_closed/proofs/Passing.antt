-- How one call passes after another.
use Rattle.std.proofs.Common.{◌≡◌, ◌⊎◌, inl, inr, ⊎_elim, ℕ, refl, sym, subst, ap, ◌∙◌, arith}
use Rattle.ocfl_accounts.specs.{Kept.{Kept, Account, with_account}, Crash.{Step, Same, MayPut, After, Passes as CrashPasses}}
use Rattle.ocfl_closed.specs.{Files.{Files, kept_of}, Cut.{ClosedState, Passes, Calm, Still, with_listed}}

-- two calls, whose steps make one
pub passes_then : (first second both : Step) (a b c : ClosedState) → Passes first a b → Passes second b c
    → ((x y : Kept) → first x y → both x y) → ((x y z : Kept) → first x y → second y z → both x z) → Passes both a c
passes_then first second both a b c p q one two = record {
  later = let m = p.later in let n = q.later in omega (arith, m, n);
  now = λ k m. through k (q.now k m);
  meanwhile = λ t k le m. ⊎_elim (λ before. early t k (p.meanwhile t k le before)) (λ e. inr (through k e)) (q.meanwhile t k (let n = p.later in omega (arith, le, n)) m);
  keeps = λ t k le m. q.keeps t k (let n = p.later in omega (arith, le, n)) (p.keeps t k le m);
}
  where
    through : (k : Kept) → After second b.may_leave k → After both a.may_leave k
    through k e = let d = p.now e.0 e.1 in (d.0, d.1, two d.0 e.0 k d.2 e.2)

    early : (t : ℕ) (k : Kept) → a.left_since t k ⊎ After first a.may_leave k → a.left_since t k ⊎ After both a.may_leave k
    early t k (inl before) = inl before
    early t k (inr d) = inr (d.0, d.1, one d.0 k d.2)

pub passes_none : (a : ClosedState) → Passes Same a a
passes_none a = record { later = omega arith; now = λ k m. (k, m, refl); meanwhile = λ t k le m. inl m; keeps = λ t k le m. m }

-- a call that changes nothing, and another one
pub same_then : (step : Step) → ((k : Kept) → step k k) → (a b c : ClosedState) → Passes Same a b → Passes step b c → Passes step a c
same_then step whatever a b c p q = passes_then Same step step a b c p q (λ x y e. subst (step x) (sym e) (whatever x)) (λ x y z e s. subst (λ d. step d z) e s)

-- a call, and another one that changes nothing
pub then_same : (step : Step) → (a b c : ClosedState) → Passes step a b → Passes Same b c → Passes step a c
then_same step a b c p q = passes_then step Same step a b c p q (λ x y s. s) (λ x y z s e. subst (step x) (sym e) s)

pub calm_none : (a : ClosedState) → Calm a a
calm_none a = record { passes = passes_none a; files = refl }

pub calm_then : (a b c : ClosedState) → Calm a b → Calm b c → Calm a c
calm_then a b c p q = record { passes = same_then Same (λ k. refl) a b c p.passes q.passes; files = q.files ∙ p.files }

pub still_none : (a : ClosedState) → Still a a
still_none a = record { calm = calm_none a; beside = refl }

pub still_then : (a b c : ClosedState) → Still a b → Still b c → Still a c
still_then a b c p q = record { calm = calm_then a b c p.calm q.calm; beside = q.beside ∙ p.beside }

-- a call of closings, by that of their disk
pub passes_by : {F : Type 0} (state : F → ClosedState) (step : Step) (a b : F) → Passes step (state a) (state b)
    → CrashPasses (λ f. (state f).may_leave) (λ f. (state f).moment) (λ f. (state f).left_since) step a b
passes_by state step a b p = record { later = p.later; now = p.now; meanwhile = p.meanwhile; keeps = p.keeps }

pub calm_by : {F : Type 0} (state : F → ClosedState) (a b : F) → Calm (state a) (state b)
    → CrashPasses (λ f. (state f).may_leave) (λ f. (state f).moment) (λ f. (state f).left_since) Same a b
calm_by state a b p = passes_by state Same a b p.passes

pub kept_listed : (a : Account) (f g : Files) → g ≡ with_listed a f → kept_of g ≡ with_account a (kept_of f)
kept_listed a f g e = ap kept_of e

pub may_kept : (a : Account) (f g : Files) → (g ≡ f) ⊎ (g ≡ with_listed a f) → MayPut a (kept_of f) (kept_of g)
may_kept a f g (inl e) = inl (ap kept_of e)
may_kept a f g (inr e) = inr (kept_listed a f g e)
