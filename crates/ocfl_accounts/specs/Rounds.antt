-- What a crash leaves of closings that are said one after the other.
use Rattle.std.specs.Prelude.{◌≡◌, ℕ, ◌+◌, ◌<◌, ◌≤◌, List, [], ◌∷◌, map}
use Rattle.ocfl_compare.specs.declared.change.ChangeAt.{ChangeAt}
use Rattle.ocfl_say.specs.Said.{Said, Grows}
use Rattle.ocfl_accounts.specs.{Changes.{Says}, Kept.{Kept, Account, account_of, with_accounts}, Crash.{Step}}
use Rattle.ocfl_accounts.specs.{Telling.{IsAccountSaid}, declared.pair.Pair.{Pair}}

-- a closing that was said: its cycle, what that was compared with, what it found, and how the output
-- stood before and then
pub record SaidClosing : Type 0 where
  pub cycle : ℕ
  pub pair : Pair
  pub changes : List ChangeAt
  pub before : Said
  pub after : Said

abbrev pub account_of_closing : SaidClosing → Account
account_of_closing t = account_of t.cycle t.changes

-- one of the cycles from a number on and below another one was said, since the output stood so
pub record IsClosingSaid (k : Kept) (says : Says) (low high : ℕ) (old : Said) (t : SaidClosing) : Type 0 where
  pub from : low ≤ t.cycle
  pub below : t.cycle < high
  pub grew : Grows old t.before
  pub said : IsAccountSaid k t.cycle says t.before t.after t.pair t.changes

-- these were said, in the order of cycles, while the output came from one stand to the other
abbrev pub AreClosingsSaid : Kept → Says → ℕ → ℕ → Said → Said → List SaidClosing → Type 0
AreClosingsSaid k says low high old new [] = Grows old new
AreClosingsSaid k says low high old new (t ∷ closings) = IsClosingSaid k says low high old t × AreClosingsSaid k says (t.cycle + 1) high t.after new closings

-- A crash leaves what it might have left before, with the accounts of some of the cycles, in order:
-- each of one whose account was not there, and whose text was said before.
abbrev pub MayAccounts : Kept → Says → ℕ → ℕ → Said → Said → Step
MayAccounts k says low high old new before after = (closings : List SaidClosing) × (AreClosingsSaid k says low high old new closings × (after ≡ with_accounts (map account_of_closing closings) before))
