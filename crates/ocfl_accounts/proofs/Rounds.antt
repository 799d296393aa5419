-- What a crash leaves after one more cycle.
use Rattle.std.proofs.Common.{◌≡◌, ◌⊎◌, inl, inr, ℕ, ◌+◌, ◌≤◌, List, [], ◌∷◌, ◌++◌, map, Bool, true, false, Option, Some, None, refl, sym, ap, subst, ◌∙◌, arith}
use Rattle.std.proofs.lemmas.Bool.{false≢true}
use Rattle.std.specs.Prelude.{◌==◌, cond}
use Rattle.ocfl_tree.specs.Place.{Text}
use Rattle.ocfl_compare.specs.declared.change.ChangeAt.{ChangeAt}
use Rattle.ocfl_say.specs.Said.{Said, Grows}
use Rattle.ocfl_accounts.specs.Kept.{Kept, Account, is_some, with_account, with_accounts, with_list, with_lists}
use Rattle.ocfl_accounts.specs.{Cycle.{Cycle}, Changes.{AreFound, IsSince, IsSinceWhole, Says}}
use Rattle.ocfl_accounts.specs.{Crash.{Outcomes, Passes}, Telling.{IsAccountSaid, MayAccount}}
use Rattle.ocfl_accounts.specs.{Rounds.{SaidClosing, AreClosingsSaid, MayAccounts, account_of_closing}, declared.pair.Pair.{Pair}}
use Rattle.ocfl_say.proofs.Outputs.{grows_none, grows_on}
use Rattle.ocfl_accounts.proofs.Passing.{passes_then}

-- a cycle without an account after others were put had none before
pub none_before : (accounts : List Account) (lists : ℕ → Option Text) (cycle : ℕ) → is_some (with_lists accounts lists cycle) ≡ false → is_some (lists cycle) ≡ false
none_before [] lists cycle e = e
none_before (a ∷ accounts) lists cycle e = by (a.cycle == cycle) (none_before accounts (with_list a lists) cycle e)
  where
    by : (b : Bool) → is_some (cond b (Some a.list) (lists cycle)) ≡ false → is_some (lists cycle) ≡ false
    by true f = absurd (false≢true (sym f))
    by false f = f

-- one more account is put
pub lists_more : (accounts : List Account) (a : Account) (lists : ℕ → Option Text) → with_list a (with_lists accounts lists) ≡ with_lists (accounts ++ a ∷ []) lists
lists_more [] a lists = refl
lists_more (b ∷ accounts) a lists = lists_more accounts a (with_list b lists)

-- what was found does not hang on accounts
found_before : (k : Kept) (accounts : List Account) (pair : Pair) (changes : List ChangeAt) → AreFound (with_accounts accounts k) pair changes → AreFound k pair changes
found_before k accounts pair changes h = record { since = h.since; since_whole = h.since_whole; missing = h.missing; is = h.is; compared = compared pair.before h.since h.compared; again = again pair.whole h.since_whole h.again; listed = h.listed }
  where
    compared : (before : Option Cycle) (cs : List ChangeAt) → IsSince (with_accounts accounts k) pair.closed before cs → IsSince k pair.closed before cs
    compared None cs is = is
    compared (Some b) cs is = is

    again : (whole : Option Cycle) (cs : List ChangeAt) → IsSinceWhole (with_accounts accounts k) pair.closed pair.again.items whole cs → IsSinceWhole k pair.closed pair.again.items whole cs
    again None cs is = is
    again (Some w) cs is = is

module _ (k : Kept) (says : Says) where
  -- a closing that is said over what is kept with more accounts is one over what was kept
  pub said_before : (accounts : List Account) (cycle : ℕ) (s t : Said) (pair : Pair) (changes : List ChangeAt) → IsAccountSaid (with_accounts accounts k) cycle says s t pair changes → IsAccountSaid k cycle says s t pair changes
  said_before accounts cycle s t pair changes h = record {
    is = h.is;
    unsaid = none_before accounts k.lists cycle h.unsaid;
    pair_is = h.pair_is;
    changes_are = (h.changes_are.0, λ e. found_before k accounts pair changes (h.changes_are.1 e));
    text = h.text;
    is_grave = h.is_grave;
    says_it = h.says_it;
    said = h.said;
    grew = h.grew;
  }

  -- the output went on
  closings_on : (low n m : ℕ) (s t u : Said) (closings : List SaidClosing) → n ≤ m → Grows t u → AreClosingsSaid k says low n s t closings → AreClosingsSaid k says low m s u closings
  closings_on low n m s t u [] le grew h = grows_on s t u h grew
  closings_on low n m s t u (x ∷ closings) le grew h =
      let first = h.0 in
      let below = first.below in
      (record { from = first.from; below = omega (arith, le, below); grew = first.grew; said = first.said }, closings_on (x.cycle + 1) n m x.after t u closings le grew h.1)

  -- one more cycle was said
  closings_more : (low n : ℕ) (s t u : Said) (closings : List SaidClosing) (x : SaidClosing) → low ≤ n → x.cycle ≡ n → Grows t x.before → Grows x.after u → IsAccountSaid k x.cycle says x.before x.after x.pair x.changes
      → AreClosingsSaid k says low n s t closings → AreClosingsSaid k says low (n + 1) s u (closings ++ x ∷ [])
  closings_more low n s t u [] x le is before after said h = (record { from = omega (arith, le, is); below = omega (arith, is); grew = grows_on s t x.before h before; said = said }, after)
  closings_more low n s t u (y ∷ closings) x le is before after said h =
      let first = h.0 in
      let below = first.below in (
        record { from = first.from; below = omega (arith, below); grew = first.grew; said = first.said },
        closings_more (y.cycle + 1) n y.after t u closings x (omega (arith, below)) is before after said h.1,
      )

  -- no cycle comes after the last one
  within : (low n end : ℕ) (s t : Said) (closings : List SaidClosing) → (n ≤ end) ⊎ (n ≡ low) → AreClosingsSaid k says low n s t closings → AreClosingsSaid k says low end s t closings
  within low n end s t closings (inl le) h = closings_on low n end s t t closings le (grows_none t) h
  within low n end s t [] (inr none) h = h
  within low n end s t (x ∷ closings) (inr none) h = let from = h.0.from in let below = h.0.below in absurd (omega (arith, from, below, none))

  pub may_within : (low n end : ℕ) (s t : Said) → (n ≤ end) ⊎ (n ≡ low) → (x y : Kept) → MayAccounts k says low n s t x y → MayAccounts k says low end s t x y
  may_within low n end s t bound x y h = (h.0, (within low n end s t h.0 bound h.1.0, h.1.1))

  map_more : (closings : List SaidClosing) (x : SaidClosing) (d : Kept) → with_account (account_of_closing x) (with_accounts (map account_of_closing closings) d) ≡ with_accounts (map account_of_closing (closings ++ x ∷ [])) d
  map_more closings x d = ap (λ l. record { sights = d.sights; reports = d.reports; listed = d.listed; lists = l }) (lists_more (map account_of_closing closings) (account_of_closing x) d.lists ∙ ap (λ l. with_lists l d.lists) (mapped closings))
    where
      mapped : (closings : List SaidClosing) → map account_of_closing closings ++ account_of_closing x ∷ [] ≡ map account_of_closing (closings ++ x ∷ [])
      mapped [] = refl
      mapped (y ∷ closings) = ap (λ l. account_of_closing y ∷ l) (mapped closings)

  module _ (low n : ℕ) (s t u : Said) (le : low ≤ n) (grew : Grows t u) where
    -- a crash before the cycle
    pub still_may : (x y : Kept) → MayAccounts k says low n s t x y → MayAccounts k says low (n + 1) s u x y
    still_may x y h = (h.0, (closings_on low n (n + 1) s t u h.0 (omega arith) grew h.1.0, h.1.1))

    -- a crash in it or after it
    pub may_more : (now : Kept) → MayAccounts k says low n s t k now → (x y z : Kept) → MayAccounts k says low n s t x y → MayAccount now n says t u y z → MayAccounts k says low (n + 1) s u x z
    may_more now seen x y z h (inl same) = subst (MayAccounts k says low (n + 1) s u x) (sym same) (still_may x y h)
    may_more now seen x y z h (inr put) =
        let said = put.1.1.0 in
        let one : SaidClosing = record { cycle = n; pair = put.0; changes = put.1.0; before = t; after = u } in
        let here = said_before (map account_of_closing seen.0) n t u put.0 put.1.0 (subst (λ d. IsAccountSaid d n says t u put.0 put.1.0) seen.1.1 said) in (
          h.0 ++ one ∷ [],
          (
            closings_more low n s t u h.0 one le refl (grows_none t) (grows_none u) here h.1.0,
            put.1.1.1 ∙ ap (with_account (account_of_closing one)) h.1.1 ∙ map_more h.0 one x,
          ),
        )

    pub cycles_pass : {F : Type 0} (may_leave : F → Outcomes) (moment : F → ℕ) (left_since : F → ℕ → Outcomes) (now : Kept) → MayAccounts k says low n s t k now
        → (a b c : F) → Passes may_leave moment left_since (MayAccounts k says low n s t) a b → Passes may_leave moment left_since (MayAccount now n says t u) b c
        → Passes may_leave moment left_since (MayAccounts k says low (n + 1) s u) a c
    cycles_pass may_leave moment left_since now seen a b c p q =
        passes_then may_leave moment left_since (MayAccounts k says low n s t) (MayAccount now n says t u) (MayAccounts k says low (n + 1) s u) still_may (may_more now seen) a b c p q

  -- nothing was said yet
  pub none_said : (low : ℕ) (s : Said) (x : Kept) → MayAccounts k says low low s s x x
  none_said low s x = ([], (grows_none s, refl))
