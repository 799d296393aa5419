-- Calls that say closings, one after the other, each ended or crashed.
use Rattle.std.specs.Prelude.{◌≡◌, ◌⊎◌, ℕ, List, [], ◌∷◌, ⊤}
use Rattle.ocfl_compare.specs.declared.change.ChangeAt.{ChangeAt}
use Rattle.ocfl_say.specs.Said.{Said, Grows}
use Rattle.ocfl_accounts.specs.{Changes.{Says}, Kept.{Kept, Account}, Crash.{Outcomes, Same, Follows, Passes}}
use Rattle.ocfl_accounts.specs.{Telling.{Stand, IsAccountSaid, IsSettled}, Rounds.{SaidClosing, MayAccounts, account_of_closing}}
use Rattle.ocfl_accounts.specs.declared.pair.Pair.{Pair}

-- a call: the closed reports when it began and when they were last seen, which cycles it was to say,
-- and how its output stood before and then
pub record Call (F : Type 0) : Type 0 where
  pub began : F
  pub ended : F
  pub first : ℕ
  pub end : ℕ
  pub before : Said
  pub after : Said

-- The first begins on one of these outcomes, and each other one on what a crash of the one before it,
-- at any moment, may have left, or on its end.
abbrev pub AreCalls : {F : Type 0} → (F → Kept) → (F → Outcomes) → (F → ℕ) → (F → ℕ → Outcomes) → (F → Says) → Outcomes → List (Call F) → Type 0
AreCalls seen may_leave moment left_since says outcomes [] = ⊤
AreCalls seen may_leave moment left_since says outcomes (c ∷ calls) =
    Follows Same outcomes (may_leave c.began)
    × Passes may_leave moment left_since (MayAccounts (seen c.began) (says c.began) c.first c.end c.before c.after) c.began c.ended
    × AreCalls seen may_leave moment left_since says (left_since c.ended (moment c.began)) calls

-- what a crash at any moment of the last call may have left
abbrev pub left_by : {F : Type 0} → (F → ℕ) → (F → ℕ → Outcomes) → Outcomes → List (Call F) → Outcomes
left_by moment left_since outcomes [] = outcomes
left_by moment left_since outcomes (c ∷ calls) = left_by moment left_since (left_since c.ended (moment c.began)) calls

-- in one of these calls a text was said, that of the comparison with the right reports, and then the
-- account was put
pub record IsSaidIn {F : Type 0} (seen : F → Kept) (says : F → Says) (a : Account) (c : Call F) : Type 0 where
  pub closing : SaidClosing
  pub is : a ≡ account_of_closing closing
  pub grew : Grows c.before closing.before
  pub said : IsAccountSaid (seen c.began) closing.cycle (says c.began) closing.before closing.after closing.pair closing.changes
  pub then : Grows closing.after c.after

abbrev pub WasSaid : {F : Type 0} → (F → Kept) → (F → Says) → Account → List (Call F) → Type 0
WasSaid seen says a [] = ⊥
WasSaid seen says a (c ∷ calls) = IsSaidIn seen says a c ⊎ WasSaid seen says a calls

-- ---- one call

-- between two stands of an output its text was said
pub record IsSaidBetween (k : Kept) (cycle : ℕ) (says : Says) (old new : Said) : Type 0 where
  pub pair : Pair
  pub changes : List ChangeAt
  pub before : Said
  pub after : Said
  pub grew : Grows old before
  pub said : IsAccountSaid k cycle says before after pair changes
  pub then : Grows after new

-- of a cycle nothing was to be said: its account was there, or its report was not; or its text was said
-- in the call
abbrev pub IsDoneIn : Stand → Says → Stand → ℕ → Type 0
IsDoneIn before says after cycle = IsSettled before.kept cycle ⊎ IsSaidBetween before.kept cycle says before.said after.said
