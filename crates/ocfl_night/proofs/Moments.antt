-- How calls of a state folder go on from one another.
use Rattle.std.proofs.Common.{◌≡◌, inl, inr, ⊎_elim, ℕ, refl, sym, ◌∙◌, subst, arith}
use Rattle.ocfl_state.specs.Content.{Content}
use Rattle.ocfl_state.specs.declared.folder.StateFolder as state
use Rattle.ocfl_state.specs.Crash.{Outcomes, Only, Step, Same, MayTear, After, Passes, LeavesOnly}
use Rattle.ocfl_night.specs.Steps.{IsUntouched, KeepsFront}

-- since a moment there is no other
abbrev pub OnlyNow : {F : Type 0} → (F → Outcomes) → (F → ℕ) → (F → ℕ → Outcomes) → Type 0
OnlyNow {F} may_leave moment left_since = (x : F) (c : Content) → left_since x (moment x) c → may_leave x c

module _ {F : Type 0} {may_leave : F → Outcomes} {moment : F → ℕ} {left_since : F → ℕ → Outcomes} where
  -- no call
  pub stayed : {f : F} → Passes may_leave moment left_since Same f f
  stayed = record { later = omega arith; now = λ c n. (c, n, refl); meanwhile = λ t c le left. inl left; keeps = λ t c le left. left }

  -- a call does no more than another might
  pub weaker : {step more : Step} {f g : F} → ((d c : Content) → step d c → more d c) → Passes may_leave moment left_since step f g → Passes may_leave moment left_since more f g
  weaker less p = record {
    later = p.later;
    now = λ c n. let from = p.now c n in (from.0, from.1, less from.0 c from.2);
    meanwhile = λ t c le left. ⊎_elim (λ was. inl was) (λ from. inr (from.0, from.1, less from.0 c from.2)) (p.meanwhile t c le left);
    keeps = p.keeps;
  }

  -- what a torn report keeps
  pub torn_less : {n most : ℕ} {f g : F} → Passes may_leave moment left_since (MayTear n most) f g → Passes may_leave moment left_since (KeepsFront n) f g
  torn_less p = weaker (λ d c torn. record { checkpoint = torn.checkpoint; closed = torn.closed; front = torn.front }) p

  -- one call after another that changed nothing
  pub same_first : {step : Step} {f g h : F} → ((d c : Content) → Same d c → step d c) → Passes may_leave moment left_since Same f g → Passes may_leave moment left_since step g h → Passes may_leave moment left_since step f h
  same_first {step} {f} {g} {h} same first second = record {
    later = omega (arith, first.later, second.later);
    now = λ c may. back c (second.now c may);
    meanwhile = λ t c le since. ⊎_elim
        (λ before. ⊎_elim (λ was. inl was) (λ from. inr (from.0, from.1, same from.0 c from.2)) (first.meanwhile t c le before))
        (λ after. inr (back c after))
        (second.meanwhile t c (omega (arith, le, first.later)) since);
    keeps = λ t c le since. second.keeps t c (omega (arith, le, first.later)) (first.keeps t c le since);
  }
    where
      back : (c : Content) → After step (may_leave g) c → After step (may_leave f) c
      back c (d, may, taken) = let before = first.now d may in (before.0, before.1, subst (λ (x : Content). step x c) before.2 taken)

  -- two calls that changed nothing
  pub same_twice : {f g h : F} → Passes may_leave moment left_since Same f g → Passes may_leave moment left_since Same g h → Passes may_leave moment left_since Same f h
  same_twice first second = same_first (λ d c same. same) first second

  -- what reads show is still all that a crash leaves
  pub only_same : (seen : F → Content) {f g : F} → Passes may_leave moment left_since Same f g → seen g ≡ seen f → Only (seen f) (may_leave f) → Only (seen g) (may_leave g)
  only_same seen p same only c n = let from = p.now c n in from.2 ∙ only from.0 from.1 ∙ sym same

  -- what a crash leaves after a call has P
  pub left_after : {step : Step} {P : Outcomes} {f g : F} → ((d c : Content) → may_leave f d → step d c → P c) → Passes may_leave moment left_since step f g → (c : Content) → may_leave g c → P c
  left_after after p c left = let from = p.now c left in after from.0 c from.1 from.2

pub untouched : {F : Type 0} {S : state.Ghosts F} {f : F} → IsUntouched S f f
untouched = record { same = refl; crash = stayed }

module _ {F : Type 0} {moment : F → ℕ} {left_since : F → ℕ → Outcomes} where
  -- nothing is called, or one run of calls after another
  pub joined_moments : {P : Outcomes} {f g h : F} → LeavesOnly moment left_since f g P → LeavesOnly moment left_since g h P → LeavesOnly moment left_since f h P
  joined_moments {P} {f} p q = record {
    later = omega (arith, p.later, q.later);
    each = λ c left. ⊎_elim (λ was. p.each c was) (λ has. has) (q.before (moment f) c p.later left);
    before = λ t c le left. ⊎_elim (λ was. p.before t c le was) (λ has. inr has) (q.before t c (omega (arith, le, p.later)) left);
  }

  -- less is said of what a crash leaves
  pub leaves_weaker : {P Q : Outcomes} {f g : F} → ((c : Content) → P c → Q c) → LeavesOnly moment left_since f g P → LeavesOnly moment left_since f g Q
  leaves_weaker less p = record {
    later = p.later;
    each = λ c left. less c (p.each c left);
    before = λ t c le left. ⊎_elim (λ was. inl was) (λ has. inr (less c has)) (p.before t c le left);
  }

module _ {F : Type 0} {may_leave : F → Outcomes} {moment : F → ℕ} {left_since : F → ℕ → Outcomes} (only_now : OnlyNow may_leave moment left_since) where
  -- a first call, or first calls, after which a crash leaves what has P
  pub leaves : {step : Step} {P : Outcomes} {f g : F} → ((c : Content) → may_leave f c → P c) → ((d c : Content) → may_leave f d → step d c → P c) → Passes may_leave moment left_since step f g → LeavesOnly moment left_since f g P
  leaves {step} {P} {f} here after p = record {
    later = p.later;
    each = λ c left. ⊎_elim (λ was. here c (only_now f c was)) (λ from. after from.0 c from.1 from.2) (p.meanwhile (moment f) c (omega arith) left);
    before = λ t c le left. ⊎_elim (λ was. inl was) (λ from. inr (after from.0 c from.1 from.2)) (p.meanwhile t c le left);
  }

  -- nothing is changed
  pub unchanged : {P : Outcomes} {f g : F} → ((c : Content) → may_leave f c → P c) → Passes may_leave moment left_since Same f g → LeavesOnly moment left_since f g P
  unchanged {P} here p = leaves here (λ d c n same. subst P (sym same) (here d n)) p

  -- nothing is called
  pub unmoved : {P : Outcomes} {f : F} → ((c : Content) → may_leave f c → P c) → LeavesOnly moment left_since f f P
  unmoved here = unchanged here stayed
