-- One more look of a search for an earlier cycle.
use Rattle.std.proofs.Common.{◌≡◌, ◌⊎◌, inl, inr, ℕ, ◌+◌, ◌<◌, ◌≤◌, Bool, true, false, Option, Some, None, refl, sym, ap, subst, ◌∙◌, arith}
use Rattle.std.proofs.Math.Nat.{eq-or-lt_of_le}
use Rattle.std.specs.Prelude.{cond}
use Rattle.ocfl_accounts.specs.Cycle.{Cycle, Sight, there, away, is_fit, is_fit_cycle, is_missing, lowest, IsLastOf, IsEarlier}
use Rattle.ocfl_accounts.specs.Search.{fit_of, missing_with}

-- those from the first number on, and below the second, that were looked at: none was fit, and this is
-- the last one whose report is missing
pub record IsLooked (sights : ℕ → Sight) (whole : Bool) (low next cycle : ℕ) (missing : Option ℕ) : Type 0 where
  pub within : next ≤ cycle
  pub bound : (low ≤ next) ⊎ (next ≡ cycle)
  pub none : (b : ℕ) → next ≤ b → b < cycle → is_fit whole (sights b) ≡ false
  pub lacks : IsLastOf sights (is_missing whole) next cycle missing

pub looked_none : (sights : ℕ → Sight) (whole : Bool) (low cycle : ℕ) → IsLooked sights whole low cycle cycle None
looked_none sights whole low cycle = record {
  within = omega arith;
  bound = inr refl;
  none = λ b k l. absurd (omega (arith, k, l));
  lacks = λ b k l. absurd (omega (arith, k, l));
}

is_not_fit : (whole : Bool) (s : Sight) → fit_of whole s ≡ None → is_fit whole s ≡ false
is_not_fit whole (there c) e = by (is_fit_cycle whole c) refl e
  where
    by : (b : Bool) → is_fit_cycle whole c ≡ b → cond b (Some c) None ≡ None → is_fit_cycle whole c ≡ false
    by true f g = cc
    by false f g = f
is_not_fit whole (away w lost) e = refl

is_found : (whole : Bool) (s : Sight) (c : Cycle) → fit_of whole s ≡ Some c → (s ≡ there c) × (is_fit whole s ≡ true)
is_found whole (there d) c e = by (is_fit_cycle whole d) refl e
  where
    by : (b : Bool) → is_fit_cycle whole d ≡ b → cond b (Some d) None ≡ Some c → (there d ≡ there c) × (is_fit_cycle whole d ≡ true)
    by true f g = (ap there (same g), f)
      where
        same : Some d ≡ Some c → d ≡ c
        same h = cc
    by false f g = cc
is_found whole (away w lost) c e = cc

module _ (sights : ℕ → Sight) (whole : Bool) (low next m cycle : ℕ) (missing : Option ℕ) (h : IsLooked sights whole low next cycle missing) (down : next ≡ m + 1) (above : low < next) where
  at_or_later : (test : Sight → Bool) (b : ℕ) → m ≤ b → (b ≡ m → test (sights b) ≡ false) → (next ≤ b → test (sights b) ≡ false) → test (sights b) ≡ false
  at_or_later test b l here later = by (eq-or-lt_of_le l)
    where
      by : (m ≡ b) ⊎ (m < b) → test (sights b) ≡ false
      by (inl e) = here (sym e)
      by (inr g) = later (omega (arith, g, down))

  more_missing : IsLastOf sights (is_missing whole) m cycle (missing_with whole missing m (sights m))
  more_missing = by missing h.lacks
    where
      in_range : m < cycle
      in_range = let w = h.within in omega (arith, w, down)

      of : (b : Bool) → is_missing whole (sights m) ≡ b → ((b : ℕ) → next ≤ b → b < cycle → is_missing whole (sights b) ≡ false) → IsLastOf sights (is_missing whole) m cycle (cond b (Some m) None)
      of true e none = (omega arith, (in_range, (e, λ c k l. none c (omega (arith, k, down)) l)))
      of false e none = λ c k l. at_or_later (is_missing whole) c k (λ f. ap (λ x. is_missing whole (sights x)) f ∙ e) (λ g. none c g l)

      by : (o : Option ℕ) → IsLastOf sights (is_missing whole) next cycle o → IsLastOf sights (is_missing whole) m cycle (missing_with whole o m (sights m))
      by None none = of (is_missing whole (sights m)) refl none
      by (Some c) l = (let first = l.0 in omega (arith, first, down), l.1)

  pub looked_more : fit_of whole (sights m) ≡ None → IsLooked sights whole low m cycle (missing_with whole missing m (sights m))
  looked_more e = record {
    within = let w = h.within in omega (arith, w, down);
    bound = inl (omega (arith, above, down));
    none = λ b k l. at_or_later (is_fit whole) b k (λ f. ap (λ x. is_fit whole (sights x)) f ∙ is_not_fit whole (sights m) e) (λ g. h.none b g l);
    lacks = more_missing;
  }

  pub found_is : (c : Cycle) → fit_of whole (sights m) ≡ Some c → c.cycle ≡ m → low ≡ lowest cycle → IsEarlier sights whole cycle (Some c) (missing_with whole missing m (sights m))
  found_is c e f g =
      let k = is_found whole (sights m) c e in
      let w = h.within in
      record {
        last = (omega (arith, above, down, f, g), (omega (arith, w, down, f), (ap (λ x. is_fit whole (sights x)) f ∙ k.1, λ b l r. h.none b (omega (arith, l, down, f)) r)));
        is = ap sights f ∙ k.0;
        lacks = subst (λ n. IsLastOf sights (is_missing whole) n cycle (missing_with whole missing m (sights m))) (sym f) more_missing;
      }

pub none_found : (sights : ℕ → Sight) (whole : Bool) (low next cycle : ℕ) (missing : Option ℕ) → IsLooked sights whole low next cycle missing → next ≤ low → low ≡ lowest cycle → IsEarlier sights whole cycle None missing
none_found sights whole low next cycle missing h under e = record {
  last = λ b k l. h.none b (let x = k in omega (arith, x, under, e)) l;
  is = tt;
  lacks = subst (λ n. IsLastOf sights (is_missing whole) n cycle missing) e (by missing h.lacks);
}
  where
    by : (o : Option ℕ) → IsLastOf sights (is_missing whole) next cycle o → IsLastOf sights (is_missing whole) low cycle o
    by None none = λ b k l. none b (omega (arith, k, under)) l
    by (Some c) l = (bound h.bound, l.1)
      where
        bound : (low ≤ next) ⊎ (next ≡ cycle) → low ≤ c
        bound (inl f) = let first = l.0 in omega (arith, f, first)
        bound (inr f) = let first = l.0 in let last = l.1.0 in absurd (omega (arith, f, first, last))
