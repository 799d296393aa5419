-- What it is to say what a closed cycle found.
use Rattle.std.specs.Prelude.{◌≡◌, ◌⊎◌, ℕ, ◌+◌, ◌-◌, max, List, [], ◌∷◌, length, Bool, false, if◌then◌else◌, Option, None, Some}
use Rattle.ocfl_tree.specs.Place.{Text}
use Rattle.ocfl_compare.specs.declared.change.ChangeAt.{ChangeAt}
use Rattle.ocfl_accounts.specs.{Cycle.{there}, Unsaid.{is_unsaid}}
use Rattle.ocfl_accounts.specs.Kept.{Kept, Account, account_of, has_account, no_accounts, with_account}
use Rattle.ocfl_say.specs.Said.{Said, HasSaid, Grows}
use Rattle.ocfl_accounts.specs.{Crash.{Step}, Pairs.{IsPair, waits, status_of}, Changes.{AreChanges, Says}}
use Rattle.ocfl_accounts.specs.{Causes.{IsReason}, declared.{closings.ClosingStop.{ClosingStop}, pair.Pair.{Pair}}}

-- there is nothing to say of a cycle: its account is there, or its report is not
abbrev pub IsSettled : Kept → ℕ → Type 0
IsSettled k cycle = is_unsaid k cycle ≡ false

-- the account of the cycle is that of the comparison with the right reports, and its text was said
pub record IsAccountSaid (k : Kept) (cycle : ℕ) (says : Says) (old new : Said) (pair : Pair) (changes : List ChangeAt) : Type 0 where
  pub is : k.sights cycle ≡ there pair.closed
  pub unsaid : has_account k cycle ≡ false
  pub pair_is : IsPair k.sights pair
  pub changes_are : AreChanges k pair changes
  pub text : Text
  pub is_grave : Bool
  pub says_it : says (no_accounts k) pair changes text is_grave
  pub said : HasSaid text old new
  pub grew : Grows old new

-- it is kept then, unless the cycle can still be compared
abbrev pub kept_then : Pair → Account → Kept → Kept
kept_then pair account k = if waits pair then k else with_account account k

-- it was said and kept, and this is the status
pub record IsSaidRightly (k : Kept) (cycle : ℕ) (says : Says) (after : Kept) (old new : Said) (status : ℕ) : Type 0 where
  pub pair : Pair
  pub changes : List ChangeAt
  pub said : IsAccountSaid k cycle says old new pair changes
  pub kept : after ≡ kept_then pair (account_of cycle changes) k
  pub status_is : status ≡ status_of pair said.is_grave

-- nothing was said, and all is as it was
pub record IsLeftAlone (k : Kept) (cycle : ℕ) (after : Kept) (old new : Said) (status : ℕ) : Type 0 where
  pub settled : IsSettled k cycle
  pub same : after ≡ k
  pub silent : new ≡ old
  pub status_is : status ≡ 0

-- a crash leaves what it might have left before; or that with the account, once its text was said
abbrev pub MayAccount : Kept → ℕ → Says → Said → Said → Step
MayAccount k cycle says old new before after =
    (after ≡ before) ⊎ ((pair : Pair) × ((changes : List ChangeAt) × (IsAccountSaid k cycle says old new pair changes × (after ≡ with_account (account_of cycle changes) before))))

-- ---- cycles one after the other

-- how it stands: what is kept, how often closings have failed, and what was said
pub record Stand : Type 0 where
  pub kept : Kept
  pub faults : ℕ
  pub said : Said

abbrev pub stand_of : Kept → ℕ → Said → Stand
stand_of kept faults said = record { kept = kept; faults = faults; said = said }

-- how it stands after one cycle, the status, and why the cycle was not said, if it was not
pub record Outcome : Type 0 where
  pub after : Stand
  pub status : ℕ
  pub stop : Option ClosingStop

abbrev pub outcome_of : Stand → ℕ → Option ClosingStop → Outcome
outcome_of after status stop = record { after = after; status = status; stop = stop }

-- a cycle was said, or left alone; or not for a reason, and then its account may be kept if its text
-- was said, and the status is 3
abbrev pub IsOutcomeFor : Option ClosingStop → Stand → ℕ → Says → Stand → ℕ → Type 0
IsOutcomeFor None before cycle says after status = IsLeftAlone before.kept cycle after.kept before.said after.said status ⊎ IsSaidRightly before.kept cycle says after.kept before.said after.said status
IsOutcomeFor (Some why) before cycle says after status =
    MayAccount before.kept cycle says before.said after.said before.kept after.kept
    × (Grows before.said after.said × ((status ≡ 3) × IsReason before.faults after.faults before.said after.said why))

abbrev pub IsOutcome : Stand → ℕ → Says → Outcome → Type 0
IsOutcome before cycle says o = IsOutcomeFor o.stop before cycle says o.after o.status

-- one cycle after the other, from a number on
abbrev pub AreOutcomes : Stand → ℕ → Says → List Outcome → Stand → Type 0
AreOutcomes before cycle says [] after = after ≡ before
AreOutcomes before cycle says (o ∷ os) after = IsOutcome before cycle says o × AreOutcomes o.after (cycle + 1) says os after

-- the greatest status, if it is greater than this one
abbrev pub greatest_from : ℕ → List Outcome → ℕ
greatest_from status [] = status
greatest_from status (o ∷ os) = greatest_from (max status o.status) os

-- all cycles from the first number on and below the second, in order, and the greatest status
pub record AreSaid (before : Stand) (first end : ℕ) (says : Says) (after : Stand) (status : ℕ) : Type 0 where
  pub outcomes : List Outcome
  pub are : AreOutcomes before first says outcomes after
  pub all : length outcomes ≡ end - first
  pub greatest : status ≡ greatest_from 0 outcomes
