-- What closings say over several calls.
use Rattle.std.proofs.Common.{◌≡◌, ◌⊎◌, inl, inr, ⊎_elim, ℕ, zero, suc, ◌+◌, ◌≤◌, ◌<◌, List, [], ◌∷◌, map, length, Bool, true, false, Option, Some, None, max, refl, sym, ap, subst, ◌∙◌, arith}
use Rattle.std.proofs.{Math.Nat.{eq-or-lt_of_le}, lemmas.Bool.{eqb-true, false≢true}}
use Rattle.std.specs.Prelude.{◌==◌, ◌&&◌, cond, not}
use Rattle.ocfl_tree.specs.{Ascending.{IsAmong}, Place.{Text}}
use Rattle.ocfl_compare.specs.declared.change.ChangeAt.{ChangeAt}
use Rattle.ocfl_say.specs.Said.{Said, Grows}
use Rattle.ocfl_accounts.specs.{Changes.{Says}, Kept.{Kept, Account, HasAccount, account_of, is_some, with_account, with_list, with_lists}, Crash.{Outcomes, Passes, After}}
use Rattle.ocfl_accounts.specs.Telling.{Stand, Outcome, IsAccountSaid, IsSettled, MayAccount, IsOutcomeFor, AreOutcomes, AreSaid, greatest_from}
use Rattle.ocfl_accounts.specs.{Rounds.{SaidClosing, AreClosingsSaid, MayAccounts, account_of_closing}, Calls.{Call, AreCalls, left_by, IsSaidIn, WasSaid, IsDoneIn}}
use Rattle.ocfl_accounts.specs.{declared.{closings.ClosingStop.{ClosingStop}}}
use Rattle.ocfl_accounts.specs.{Cycle.{is_there}, Pairs.{waits}, Unsaid.{NoneUnsaid, is_unsaid, oldest}}
use Rattle.ocfl_say.proofs.Outputs.{grows_none, grows_on}
use Rattle.ocfl_accounts.proofs.Rounds.{said_before}

-- it was among the accounts of one of these outcomes
abbrev WasKept : Outcomes → Account → Type 0
WasKept outcomes a = (k : Kept) × (outcomes k × HasAccount k a)

some_same : (s t : Text) → Some s ≡ Some t → s ≡ t
some_same s t e = cc

-- an account that is there after others were put was there before, or is one of these
had_or_put : (accounts : List Account) (lists : ℕ → Option Text) (a : Account) → with_lists accounts lists a.cycle ≡ Some a.list → (lists a.cycle ≡ Some a.list) ⊎ IsAmong accounts a
had_or_put [] lists a is = inl is
had_or_put (x ∷ accounts) lists a is = of (had_or_put accounts (with_list x lists) a is)
  where
    by : (b : Bool) → (x.cycle == a.cycle) ≡ b → cond b (Some x.list) (lists a.cycle) ≡ Some a.list → (lists a.cycle ≡ Some a.list) ⊎ IsAmong (x ∷ accounts) a
    by true e f = inr (inl (λ i. record { cycle = sym (eqb-true x.cycle a.cycle e) i; list = sym (some_same x.list a.list f) i }))
    by false e f = inl f

    of : (with_list x lists a.cycle ≡ Some a.list) ⊎ IsAmong accounts a → (lists a.cycle ≡ Some a.list) ⊎ IsAmong (x ∷ accounts) a
    of (inl f) = by (x.cycle == a.cycle) refl f
    of (inr among) = inr (inr among)

module _ (k : Kept) (says : Says) where
  closings_grow : (low high : ℕ) (s t : Said) (closings : List SaidClosing) → AreClosingsSaid k says low high s t closings → Grows s t
  closings_grow low high s t [] h = h
  closings_grow low high s t (x ∷ closings) h = grows_on s x.before t h.0.grew (grows_on x.before x.after t h.0.said.grew (closings_grow (x.cycle + 1) high x.after t closings h.1))

  -- of the accounts of what was said each is that of one closing
  closing_among : (low high : ℕ) (s t : Said) (closings : List SaidClosing) (a : Account) → AreClosingsSaid k says low high s t closings → IsAmong (map account_of_closing closings) a
      → (x : SaidClosing) × ((a ≡ account_of_closing x) × (Grows s x.before × (IsAccountSaid k x.cycle says x.before x.after x.pair x.changes × Grows x.after t)))
  closing_among low high s t [] a h is = absurd is
  closing_among low high s t (x ∷ closings) a h (inl e) = (x, (e, (h.0.grew, (h.0.said, closings_grow (x.cycle + 1) high x.after t closings h.1))))
  closing_among low high s t (x ∷ closings) a h (inr is) =
      let r = closing_among (x.cycle + 1) high x.after t closings a h.1 is in
      let y = r.0 in (y, (r.1.0, (grows_on s x.after y.before (grows_on s x.before x.after h.0.grew h.0.said.grew) r.1.1.0, (r.1.1.1.0, r.1.1.1.1))))

module _ {F : Type 0} (seen : F → Kept) (may_leave : F → Outcomes) (moment : F → ℕ) (left_since : F → ℕ → Outcomes) (only_now : (f : F) (k : Kept) → left_since f (moment f) k → may_leave f k)
    (says : F → Says) where
  -- an account that a crash of one call leaves was there before, or was said in it
  one_call : (c : Call F) → Passes may_leave moment left_since (MayAccounts (seen c.began) (says c.began) c.first c.end c.before c.after) c.began c.ended
      → (k : Kept) → left_since c.ended (moment c.began) k → (a : Account) → HasAccount k a → WasKept (may_leave c.began) a ⊎ IsSaidIn seen says a c
  one_call c p k left a is = by (p.meanwhile (moment c.began) k (omega arith) left)
    where
      from : (d : Kept) → may_leave c.began d → (closings : List SaidClosing) → AreClosingsSaid (seen c.began) (says c.began) c.first c.end c.before c.after closings → HasAccount d a ⊎ IsAmong (map account_of_closing closings) a → WasKept (may_leave c.began) a ⊎ IsSaidIn seen says a c
      from d m closings are (inl old) = inl (d, (m, old))
      from d m closings are (inr new) =
          let r = closing_among (seen c.began) (says c.began) c.first c.end c.before c.after closings a are new in
          inr (record { closing = r.0; is = r.1.0; grew = r.1.1.0; said = r.1.1.1.0; then = r.1.1.1.1 })

      by : left_since c.began (moment c.began) k ⊎ After (MayAccounts (seen c.began) (says c.began) c.first c.end c.before c.after) (may_leave c.began) k → WasKept (may_leave c.began) a ⊎ IsSaidIn seen says a c
      by (inl old) = inl (k, (only_now c.began k old, is))
      by (inr h) = from h.0 h.1 h.2.0 h.2.1.0 (had_or_put (map account_of_closing h.2.0) h.0.lists a (subst (λ d. HasAccount d a) h.2.1.1 is))

  -- or over several
  pub each_said : (outcomes : Outcomes) (calls : List (Call F)) → AreCalls seen may_leave moment left_since says outcomes calls
      → (k : Kept) → left_by moment left_since outcomes calls k → (a : Account) → HasAccount k a → WasKept outcomes a ⊎ WasSaid seen says a calls
  each_said outcomes [] h k left a is = inl (k, (left, is))
  each_said outcomes (c ∷ calls) h k left a is = rest (each_said (left_since c.ended (moment c.began)) calls h.2 k left a is)
    where
      here : WasKept (may_leave c.began) a ⊎ IsSaidIn seen says a c → WasKept outcomes a ⊎ WasSaid seen says a (c ∷ calls)
      here (inl d) = let e = h.0 d.0 d.1.0 in inl (e.0, (e.1, subst (λ x. HasAccount x a) e.2 d.1.1))
      here (inr said) = inr (inl said)

      rest : WasKept (left_since c.ended (moment c.began)) a ⊎ WasSaid seen says a calls → WasKept outcomes a ⊎ WasSaid seen says a (c ∷ calls)
      rest (inl d) = here (one_call c h.1 d.0 d.1.0 a d.1.1)
      rest (inr said) = inr (inr said)

  pub each_said_from : (first : Kept) (calls : List (Call F)) → AreCalls seen may_leave moment left_since says (λ k. k ≡ first) calls
      → (k : Kept) → left_by moment left_since (λ d. d ≡ first) calls k → (a : Account) → HasAccount k a → HasAccount first a ⊎ WasSaid seen says a calls
  each_said_from first calls h k left a is = by (each_said (λ d. d ≡ first) calls h k left a is)
    where
      by : WasKept (λ d. d ≡ first) a ⊎ WasSaid seen says a calls → HasAccount first a ⊎ WasSaid seen says a calls
      by (inl was) = inl (subst (λ d. HasAccount d a) was.1.0 was.1.1)
      by (inr said) = inr said

upto_or_below : (n m : ℕ) → (n ≤ m) ⊎ (m < n)
upto_or_below zero m = inl (omega arith)
upto_or_below (suc n) zero = inr (omega arith)
upto_or_below (suc n) (suc m) = ⊎_elim (λ l. inl (omega (arith, l))) (λ l. inr (omega (arith, l))) (upto_or_below n m)

greatest_least : (s : ℕ) (os : List Outcome) → s ≤ greatest_from s os
greatest_least s [] = omega arith
greatest_least s (o ∷ os) = let more = greatest_least (max s o.status) os in omega (arith, more)

-- what is kept after a cycle: as before, or with its account
abbrev KeptAfter : Kept → ℕ → Kept → Type 0
KeptAfter k cycle after = (after ≡ k) ⊎ ((changes : List ChangeAt) × (after ≡ with_account (account_of cycle changes) k))

differ : (n m : ℕ) → (n ≡ m → ⊥) → (n == m) ≡ false
differ n m other = by (n == m) refl
  where
    by : (b : Bool) → (n == m) ≡ b → (n == m) ≡ false
    by true e = absurd (other (eqb-true n m e))
    by false e = e

-- the account of one cycle says nothing of another one
unsaid_same : (k after : Kept) (first cycle : ℕ) → (first ≡ cycle → ⊥) → KeptAfter k first after → is_unsaid after cycle ≡ is_unsaid k cycle
unsaid_same k after first cycle other (inl e) = ap (λ d. is_unsaid d cycle) e
unsaid_same k after first cycle other (inr put) =
    ap (λ d. is_unsaid d cycle) put.1 ∙ ap (λ b. not (is_some (cond b (Some (account_of first put.0).list) (k.lists cycle))) && is_there (k.sights cycle)) (differ first cycle other)

settled_before : (k after : Kept) (first cycle : ℕ) → first < cycle → KeptAfter k first after → IsSettled after cycle → IsSettled k cycle
settled_before k after first cycle later kept settled = sym (unsaid_same k after first cycle (λ e. omega (arith, e, later)) kept) ∙ settled

module _ (says : Says) where
  outcome_grows : (stop : Option ClosingStop) (before after : Stand) (cycle status : ℕ) → IsOutcomeFor stop before cycle says after status → Grows before.said after.said
  outcome_grows None before after cycle status (inl alone) = subst (Grows before.said) (sym alone.silent) (grows_none before.said)
  outcome_grows None before after cycle status (inr right) = right.said.grew
  outcome_grows (Some why) before after cycle status h = h.1.0

  outcomes_grow : (before after : Stand) (cycle : ℕ) (os : List Outcome) → AreOutcomes before cycle says os after → Grows before.said after.said
  outcomes_grow before after cycle [] h = subst (λ d. Grows before.said d.said) (sym h) (grows_none before.said)
  outcomes_grow before after cycle (o ∷ os) h = grows_on before.said o.after.said after.said (outcome_grows o.stop before o.after cycle o.status h.0) (outcomes_grow o.after after (cycle + 1) os h.1)

  -- a cycle was done, or it is unsaid still, since it failed
  first_done : (stop : Option ClosingStop) (before next after : Stand) (cycle status : ℕ) → IsOutcomeFor stop before cycle says next status → Grows next.said after.said
      → is_unsaid after.kept cycle ≡ is_unsaid next.kept cycle → IsDoneIn before says after cycle ⊎ ((is_unsaid after.kept cycle ≡ true) × (status ≡ 3))
  first_done None before next after cycle status (inl alone) grew same = inl (inl alone.settled)
  first_done None before next after cycle status (inr right) grew same =
      inl (inr (record { pair = right.pair; changes = right.changes; before = before.said; after = next.said; grew = grows_none before.said; said = right.said; then = grew }))
  first_done (Some why) before next after cycle status h grew same = by h.0
    where
      of : next.kept ≡ before.kept → (b : Bool) → is_unsaid before.kept cycle ≡ b → IsDoneIn before says after cycle ⊎ ((is_unsaid after.kept cycle ≡ true) × (status ≡ 3))
      of e true unsaid = inr (same ∙ ap (λ d. is_unsaid d cycle) e ∙ unsaid, h.1.1.0)
      of e false settled = inl (inl settled)

      by : MayAccount before.kept cycle says before.said next.said before.kept next.kept → IsDoneIn before says after cycle ⊎ ((is_unsaid after.kept cycle ≡ true) × (status ≡ 3))
      by (inl e) = of e (is_unsaid before.kept cycle) refl
      by (inr put) = inl (inr (record { pair = put.0; changes = put.1.0; before = before.said; after = next.said; grew = grows_none before.said; said = put.1.1.0; then = grew }))

  -- an outcome adds the account of its cycle at most
  kept_after : (stop : Option ClosingStop) (before after : Stand) (cycle status : ℕ) → IsOutcomeFor stop before cycle says after status → KeptAfter before.kept cycle after.kept
  kept_after None before after cycle status (inl alone) = inl alone.same
  kept_after None before after cycle status (inr right) = by (waits right.pair) right.kept
    where
      by : (b : Bool) → after.kept ≡ cond b before.kept (with_account (account_of cycle right.changes) before.kept) → KeptAfter before.kept cycle after.kept
      by true e = inl e
      by false e = inr (right.changes, e)
  kept_after (Some why) before after cycle status h = by h.0
    where
      by : MayAccount before.kept cycle says before.said after.said before.kept after.kept → KeptAfter before.kept cycle after.kept
      by (inl e) = inl e
      by (inr put) = inr (put.1.0, put.1.1.1)

  done_later : (before next after : Stand) (first cycle : ℕ) → first < cycle → KeptAfter before.kept first next.kept → Grows before.said next.said → IsDoneIn next says after cycle → IsDoneIn before says after cycle
  done_later before next after first cycle later kept grew (inl settled) = inl (settled_before before.kept next.kept first cycle later kept settled)
  done_later before next after first cycle later kept grew (inr h) =
      inr (record { pair = h.pair; changes = h.changes; before = h.before; after = h.after; grew = grows_on before.said next.said h.before grew h.grew; said = of kept h.said; then = h.then })
    where
      of : KeptAfter before.kept first next.kept → IsAccountSaid next.kept cycle says h.before h.after h.pair h.changes → IsAccountSaid before.kept cycle says h.before h.after h.pair h.changes
      of (inl e) said = subst (λ k. IsAccountSaid k cycle says h.before h.after h.pair h.changes) e said
      of (inr put) said = said_before before.kept says (account_of first put.0 ∷ []) cycle h.before h.after h.pair h.changes (subst (λ k. IsAccountSaid k cycle says h.before h.after h.pair h.changes) put.1 said)

  -- later outcomes say nothing of an earlier cycle
  later_same : (before after : Stand) (n cycle : ℕ) (os : List Outcome) → AreOutcomes before n says os after → cycle < n → is_unsaid after.kept cycle ≡ is_unsaid before.kept cycle
  later_same before after n cycle [] h earlier = ap (λ d. is_unsaid d.kept cycle) h
  later_same before after n cycle (o ∷ os) h earlier =
      later_same o.after after (n + 1) cycle os h.1 (omega (arith, earlier))
      ∙ unsaid_same before.kept o.after.kept n cycle (λ e. omega (arith, e, earlier)) (kept_after o.stop before o.after n o.status h.0)

  -- a cycle was done, or it is unsaid still, and the status says so
  abbrev DoneOrLeft : Stand → Stand → ℕ → ℕ → Type 0
  DoneOrLeft before after cycle status = IsDoneIn before says after cycle ⊎ ((is_unsaid after.kept cycle ≡ true) × (3 ≤ status))

  all_done : (os : List Outcome) (before after : Stand) (first cycle s : ℕ) → AreOutcomes before first says os after → first ≤ cycle → cycle < first + length os → DoneOrLeft before after cycle (greatest_from s os)
  all_done [] before after first cycle s h from below = absurd (omega (arith, from, below))
  all_done (o ∷ os) before after first cycle s h from below = by (eq-or-lt_of_le from) (λ later. all_done os o.after after (first + 1) cycle (max s o.status) h.1 (omega (arith, later)) (omega (arith, below)))
    where
      here : IsDoneIn before says after first ⊎ ((is_unsaid after.kept first ≡ true) × (o.status ≡ 3)) → DoneOrLeft before after first (greatest_from (max s o.status) os)
      here (inl done) = inl done
      here (inr left) = inr (left.0, (let three = left.1 in let most = greatest_least (max s o.status) os in omega (arith, three, most)))

      on : first < cycle → DoneOrLeft o.after after cycle (greatest_from (max s o.status) os) → DoneOrLeft before after cycle (greatest_from (max s o.status) os)
      on later (inl done) = inl (done_later before o.after after first cycle later (kept_after o.stop before o.after first o.status h.0) (outcome_grows o.stop before o.after first o.status h.0) done)
      on later (inr left) = inr left

      by : (first ≡ cycle) ⊎ (first < cycle) → (first < cycle → DoneOrLeft o.after after cycle (greatest_from (max s o.status) os)) → DoneOrLeft before after cycle (greatest_from (max s o.status) os)
      by (inl e) rest =
          subst (λ c. DoneOrLeft before after c (greatest_from (max s o.status) os)) e
          (here (first_done o.stop before o.after after first o.status h.0 (outcomes_grow o.after after (first + 1) os h.1) (later_same o.after after (first + 1) first os h.1 (omega arith))))
      by (inr later) rest = on later (rest later)

  each_done_or_left : (before after : Stand) (first end status : ℕ) → AreSaid before first end says after status → (cycle : ℕ) → first ≤ cycle → cycle < end → DoneOrLeft before after cycle status
  each_done_or_left before after first end status h cycle from below =
      let all = h.all in
      subst (DoneOrLeft before after cycle) (sym h.greatest) (all_done h.outcomes before after first cycle 0 h.are from (omega (arith, all, from, below)))

  pub each_done : (before after : Stand) (first end status : ℕ) → AreSaid before first end says after status → status < 3 → (cycle : ℕ) → first ≤ cycle → cycle < end → IsDoneIn before says after cycle
  each_done before after first end status h low cycle from below = by (each_done_or_left before after first end status h cycle from below)
    where
      by : DoneOrLeft before after cycle status → IsDoneIn before says after cycle
      by (inl done) = done
      by (inr left) = let three = left.1 in absurd (omega (arith, three, low))

  -- a search found the first of them, and another one finds what was not said
  pub done_or_found : (before after : Stand) (first end status cycle : ℕ) → NoneUnsaid before.kept (oldest cycle) first → AreSaid before first end says after status
      → (next later : ℕ) → NoneUnsaid after.kept (oldest later) next → (c : ℕ) → oldest cycle ≤ c → oldest later ≤ c → c < end → IsDoneIn before says after c ⊎ ((next ≤ c) × (3 ≤ status))
  done_or_found before after first end status cycle none h next later found c reach still below = by (upto_or_below first c)
    where
      again : is_unsaid after.kept c ≡ true → (next ≤ c) ⊎ (c < next) → next ≤ c
      again unsaid (inl le) = le
      again unsaid (inr less) = absurd (false≢true (sym (found c still less) ∙ unsaid))

      of : DoneOrLeft before after c status → IsDoneIn before says after c ⊎ ((next ≤ c) × (3 ≤ status))
      of (inl done) = inl done
      of (inr left) = inr (again left.0 (upto_or_below next c), left.1)

      by : (first ≤ c) ⊎ (c < first) → IsDoneIn before says after c ⊎ ((next ≤ c) × (3 ≤ status))
      by (inl from) = of (each_done_or_left before after first end status h c from below)
      by (inr less) = inl (inl (none c reach less))
