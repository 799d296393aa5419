-- Closed cycles, and which of them one is compared with.
use Rattle.std.specs.Prelude.{◌≡◌, ℕ, ◌-◌, ◌<◌, ◌≤◌, ◌&&◌, ◌||◌, Bool, true, false, not, max, List, Option, Some, None, ⊤}
use Rattle.ocfl_tree.specs.Place.{Place}

-- a closed cycle whose report is there: whether it is whole, whether lines of it were lost or may
-- have been, and which places were left out of it
pub record Cycle : Type 0 where
  pub cycle : ℕ
  pub whole : Bool
  pub lost : Bool
  pub left : List Place

-- what is there of a closed cycle: its report; or no report, and of that whether it was whole, and
-- whether lines of it were lost, as far as is known
pub data Sight : Type 0 where
  there : Cycle → Sight
  away : Bool → Bool → Sight

abbrev pub is_there : Sight → Bool
is_there (there c) = true
is_there (away whole lost) = false

-- a report lost nothing and, if only a whole one will do, is whole
abbrev pub fits : Bool → Bool → Bool → Bool
fits only_whole whole lost = not lost && (whole || not only_whole)

abbrev pub is_fit_cycle : Bool → Cycle → Bool
is_fit_cycle only_whole c = fits only_whole c.whole c.lost

abbrev pub is_fit : Bool → Sight → Bool
is_fit only_whole (there c) = is_fit_cycle only_whole c
is_fit only_whole (away whole lost) = false

-- it could be compared with if its report were there
abbrev pub is_missing : Bool → Sight → Bool
is_missing only_whole (there c) = false
is_missing only_whole (away whole lost) = fits only_whole whole lost

-- a report is looked for in the 999 cycles before one
abbrev pub lowest : ℕ → ℕ
lowest cycle = max 1 (cycle - 999)

-- the last cycle from the first number on, and below the second, of which a test holds; or it holds
-- of none
abbrev pub IsLastOf : (ℕ → Sight) → (Sight → Bool) → ℕ → ℕ → Option ℕ → Type 0
IsLastOf sights test low high None = (b : ℕ) → low ≤ b → b < high → test (sights b) ≡ false
IsLastOf sights test low high (Some c) = (low ≤ c) × ((c < high) × ((test (sights c) ≡ true) × ((b : ℕ) → c < b → b < high → test (sights b) ≡ false)))

abbrev pub number_of : Option Cycle → Option ℕ
number_of None = None
number_of (Some c) = Some c.cycle

abbrev pub IsThere : (ℕ → Sight) → Option Cycle → Type 0
IsThere sights None = ⊤
IsThere sights (Some c) = sights c.cycle ≡ there c

abbrev pub number_or : ℕ → Option Cycle → ℕ
number_or low None = low
number_or low (Some c) = c.cycle

-- the last cycle before one that is fit to be compared with, and the last one between the two that
-- would be if its report were there
pub record IsEarlier (sights : ℕ → Sight) (whole : Bool) (cycle : ℕ) (found : Option Cycle) (missing : Option ℕ) : Type 0 where
  pub last : IsLastOf sights (is_fit whole) (lowest cycle) cycle (number_of found)
  pub is : IsThere sights found
  pub lacks : IsLastOf sights (is_missing whole) (number_or (lowest cycle) found) cycle missing
