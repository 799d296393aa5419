-- What is kept of closed cycles.
use Rattle.std.specs.Prelude.{◌≡◌, ℕ, ◌==◌, List, [], ◌∷◌, Bool, true, false, if◌then◌else◌, Option, Some, None}
use Rattle.ocfl_tree.specs.Place.{Text, Place}
use Rattle.ocfl_compare.specs.{Gone.{gone_text}, declared.change.ChangeAt.{ChangeAt}}
use Rattle.ocfl_accounts.specs.Cycle.{Sight, away}

-- the account of a closed cycle: the text of its list of what is gone
pub record Account : Type 0 where
  pub cycle : ℕ
  pub list : Text

abbrev pub account_with : ℕ → Text → Account
account_with cycle list = record { cycle = cycle; list = list }

-- that of these changes has a row for each that makes something gone
abbrev pub account_of : ℕ → List ChangeAt → Account
account_of cycle changes = account_with cycle (gone_text changes)

-- what is there of each cycle, the bytes of its report, the objects that must be there, if they are
-- listed, and the list of what is gone, if the account of the cycle was put
pub record Kept : Type 0 where
  pub sights : ℕ → Sight
  pub reports : ℕ → Text
  pub listed : Option (List Place)
  pub lists : ℕ → Option Text

abbrev pub is_some : {A : Type 0} → Option A → Bool
is_some None = false
is_some (Some x) = true

abbrev pub has_account : Kept → ℕ → Bool
has_account k cycle = is_some (k.lists cycle)

-- this account is there
abbrev pub HasAccount : Kept → Account → Type 0
HasAccount k a = k.lists a.cycle ≡ Some a.list

-- the list of one cycle is that of its account
abbrev pub with_list : Account → (ℕ → Option Text) → ℕ → Option Text
with_list a lists cycle = if a.cycle == cycle then Some a.list else lists cycle

-- one account is put after the other
abbrev pub with_lists : List Account → (ℕ → Option Text) → ℕ → Option Text
with_lists [] lists = lists
with_lists (a ∷ accounts) lists = with_lists accounts (with_list a lists)

abbrev pub with_accounts : List Account → Kept → Kept
with_accounts accounts k = record { sights = k.sights; reports = k.reports; listed = k.listed; lists = with_lists accounts k.lists }

abbrev pub with_account : Account → Kept → Kept
with_account a k = with_accounts (a ∷ []) k

-- no account was put
abbrev pub no_lists : ℕ → Option Text
no_lists cycle = None

-- the same without the accounts
abbrev pub no_accounts : Kept → Kept
no_accounts k = record { sights = k.sights; reports = k.reports; listed = k.listed; lists = no_lists }

-- of a folder of which nothing is known
abbrev pub nothing_kept : Kept
nothing_kept = record { sights = λ _. away true false; reports = λ _. []; listed = None; lists = no_lists }
