-- What a closed cycle is compared with.
use Rattle.std.specs.Prelude.{◌≡◌, ℕ, ◌&&◌, ◌||◌, List, [], ◌∷◌, Bool, true, false, not, filter, Option, Some, None}
use Rattle.ocfl_tree.specs.Place.{Place}
use Rattle.ocfl_compare.specs.Changes.{is_left}
use Rattle.ocfl_status.specs.Status.{status_of as exit_status}
use Rattle.ocfl_accounts.specs.{Cycle.{Cycle, Sight, IsEarlier}, Kept.{is_some}}
use Rattle.ocfl_accounts.specs.declared.pair.Pair.{Pair}

-- those of the places that are none of the others, and not below one of them
abbrev pub outside : List Place → List Place → List Place
outside places others = filter (λ p. not (is_left others p)) places

-- what the report before alone left out
abbrev pub left_before : Cycle → Option Cycle → List Place
left_before now None = []
left_before now (Some before) = outside before.left now.left

-- nothing is looked for
abbrev pub IsNone : Option Cycle → Option ℕ → Type 0
IsNone found missing = (found ≡ None) × (missing ≡ None)

-- a cycle that lost lines is compared with none
abbrev pub IsBefore : (ℕ → Sight) → Cycle → Option Cycle → Option ℕ → Type 0
IsBefore sights now found missing = by now.lost
  where
    by : Bool → Type 0
    by true = IsNone found missing
    by false = IsEarlier sights false now.cycle found missing

-- where the report before alone left places out, the last whole one before that is looked for
abbrev pub IsWholeBefore : (ℕ → Sight) → Option Cycle → List Place → Option Cycle → Option ℕ → Type 0
IsWholeBefore sights None again found missing = IsNone found missing
IsWholeBefore sights (Some before) [] found missing = IsNone found missing
IsWholeBefore sights (Some before) (p ∷ again) found missing = IsEarlier sights true before.cycle found missing

pub record IsPair (sights : ℕ → Sight) (pair : Pair) : Type 0 where
  pub before : IsBefore sights pair.closed pair.before pair.missing
  pub again : pair.again.items ≡ left_before pair.closed pair.before
  pub whole : IsWholeBefore sights pair.before pair.again.items pair.whole pair.whole_missing

-- a report is not there with which the cycle is to be compared
abbrev pub lacks : Pair → Bool
lacks pair = is_some pair.missing || is_some pair.whole_missing

-- nothing was compared, and it can be once a report is back
abbrev pub waits : Pair → Bool
waits pair = not (is_some pair.before) && is_some pair.missing

-- 3 if the report is not whole or lacks another one, 1 if something is new or gone, else 0
abbrev pub status_of : Pair → Bool → ℕ
status_of pair is_grave = exit_status (not pair.closed.whole || lacks pair) is_grave
