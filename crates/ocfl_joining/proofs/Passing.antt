-- What a crash may leave of joined reports over several calls.
use Rattle.std.proofs.Common.{◌≡◌, ◌⊎◌, inl, inr, ℕ, ◌≤◌, List, [], ◌∷◌, ◌++◌, Bool, refl, sym, subst, arith}
use Rattle.ocfl_tree.specs.Place.{Place}
use Rattle.ocfl_say.specs.Said.{Said}
use Rattle.ocfl_joining.specs.{Crash.{Step, Same, MayPut, Outcomes, After, Passes}, Reports.{Put, Seen}}
use Rattle.ocfl_joining.specs.Joined.{CanPut, MayLeaveJoined, joined_of}

module _ {F : Type 0} (may_leave : F → Outcomes) (moment : F → ℕ) (left_since : F → ℕ → Outcomes) where
  -- two calls, and a step that both steps together are, and the first one alone
  passes_then : (first then step : Step) → ((x y : List Put) → first x y → step x y) → ((x y z : List Put) → first x y → then y z → step x z)
      → (a b c : F) → Passes may_leave moment left_since first a b → Passes may_leave moment left_since then b c → Passes may_leave moment left_since step a c
  passes_then first then step alone both a b c p q = record {
    later = let one = p.later in let two = q.later in omega (arith, one, two);
    now = λ k m. back k (q.now k m);
    meanwhile = λ t k l m. from t k l (q.meanwhile t k (let one = p.later in omega (arith, one, l)) m);
    keeps = λ t k l m. q.keeps t k (let one = p.later in omega (arith, one, l)) (p.keeps t k l m);
  }
    where
      back : (k : List Put) → After then (may_leave b) k → After step (may_leave a) k
      back k h = let e = p.now h.0 h.1 in (e.0, e.1, both e.0 h.0 k e.2 h.2)

      earlier : (t : ℕ) (k : List Put) → left_since a t k ⊎ After first (may_leave a) k → left_since a t k ⊎ After step (may_leave a) k
      earlier t k (inl m) = inl m
      earlier t k (inr h) = inr (h.0, h.1, alone h.0 k h.2)

      from : (t : ℕ) (k : List Put) → t ≤ moment a → left_since b t k ⊎ After then (may_leave b) k → left_since a t k ⊎ After step (may_leave a) k
      from t k l (inl m) = earlier t k (p.meanwhile t k l m)
      from t k l (inr h) = inr (back k h)

  pub nothing_passes : (a : F) → Passes may_leave moment left_since Same a a
  nothing_passes a = record { later = omega arith; now = λ k m. (k, m, refl); meanwhile = λ t k l m. inl m; keeps = λ t k l m. m }

  -- a call that changes nothing, and another one
  same_then : (step : Step) → ((k : List Put) → step k k) → (a b c : F) → Passes may_leave moment left_since Same a b → Passes may_leave moment left_since step b c → Passes may_leave moment left_since step a c
  same_then step whatever a b c p q = passes_then Same step step (λ x y e. subst (step x) (sym e) (whatever x)) (λ x y z e s. subst (λ d. step d z) e s) a b c p q

  pub two_same : (a b c : F) → Passes may_leave moment left_since Same a b → Passes may_leave moment left_since Same b c → Passes may_leave moment left_since Same a c
  two_same a b c p q = same_then Same (λ k. refl) a b c p q

  -- by a step that allows more
  weaker : (step other : Step) → ((d k : List Put) → step d k → other d k) → (a b : F) → Passes may_leave moment left_since step a b → Passes may_leave moment left_since other a b
  weaker step other more a b p = passes_then step Same other more (λ x y z s e. subst (other x) (sym e) (more x y s)) a b b p (nothing_passes b)

  -- nothing was put
  pub none_put : (separators : List Place) (whole : Bool) (s : Seen) (before after : Said) (a b : F) → Passes may_leave moment left_since Same a b
      → Passes may_leave moment left_since (MayLeaveJoined separators whole s before after) a b
  none_put separators whole s before after a b p = weaker Same (MayLeaveJoined separators whole s before after) (λ d k e. inl e) a b p

  -- a joined report was put that could be
  pub joined_passes : (separators : List Place) (whole : Bool) (s : Seen) (before after : Said) (p : Put) (a b c : F) → p ≡ joined_of separators whole s → CanPut separators whole s before after
      → Passes may_leave moment left_since Same a b → Passes may_leave moment left_since (MayPut p) b c
      → Passes may_leave moment left_since (MayLeaveJoined separators whole s before after) a c
  joined_passes separators whole s before after p a b c e could q r =
      same_then (MayLeaveJoined separators whole s before after) (λ k. inl refl) a b c q
      (weaker (MayPut p) (MayLeaveJoined separators whole s before after) (λ d k m. of d k m) b c r)
    where
      of : (d k : List Put) → MayPut p d k → MayLeaveJoined separators whole s before after d k
      of d k (inl f) = inl f
      of d k (inr f) = inr (subst (λ q. k ≡ d ++ q ∷ []) e f, could)
