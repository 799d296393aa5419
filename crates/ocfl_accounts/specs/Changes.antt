-- The changes of a closed cycle.
use Rattle.std.specs.Prelude.{◌≡◌, List, [], ◌++◌, Bool, true, false, filter, Option, Some, None}
use Rattle.ocfl_tree.specs.Place.{Text, Place}
use Rattle.ocfl_compare.specs.{Changes.{is_left}, Compared.{IsCompared}, Expected.{IsSearched}, Gone.{gone_text}, Seen.{changes_in}}
use Rattle.ocfl_compare.specs.declared.change.ChangeAt.{ChangeAt}
use Rattle.ocfl_accounts.specs.{Cycle.{Cycle}, Kept.{Kept, no_accounts}, declared.pair.Pair.{Pair}}

-- since the report before, outside of what either left out
abbrev pub IsSince : Kept → Cycle → Option Cycle → List ChangeAt → Type 0
IsSince k now None changes = changes ≡ []
IsSince k now (Some before) changes = IsCompared (now.left ++ before.left) (k.reports before.cycle) (k.reports now.cycle) (λ seen. changes ≡ changes_in seen)

-- since the last whole report, in the places that the report before alone left out
abbrev pub IsSinceWhole : Kept → Cycle → List Place → Option Cycle → List ChangeAt → Type 0
IsSinceWhole k now again None changes = changes ≡ []
IsSinceWhole k now again (Some whole) changes =
    IsCompared now.left (k.reports whole.cycle) (k.reports now.cycle) (λ seen. changes ≡ filter (λ c. is_left again c.place) (changes_in seen))

-- the listed objects that are missing
abbrev pub IsMissing : Kept → Cycle → Option (List Place) → List ChangeAt → Type 0
IsMissing k now None changes = changes ≡ []
IsMissing k now (Some listed) changes = IsSearched now.left listed (k.reports now.cycle) (λ seen. changes ≡ changes_in seen)

pub record AreFound (k : Kept) (pair : Pair) (changes : List ChangeAt) : Type 0 where
  pub since : List ChangeAt
  pub since_whole : List ChangeAt
  pub missing : List ChangeAt
  pub is : changes ≡ since ++ (since_whole ++ missing)
  pub compared : IsSince k pair.closed pair.before since
  pub again : IsSinceWhole k pair.closed pair.again.items pair.whole since_whole
  pub listed : IsMissing k pair.closed k.listed missing

-- of a cycle whose report lost lines nothing is said
abbrev pub AreChanges : Kept → Pair → List ChangeAt → Type 0
AreChanges k pair changes = (pair.closed.lost ≡ true → changes ≡ []) × (pair.closed.lost ≡ false → AreFound k pair changes)

-- what may be said of the changes of a cycle, and whether by that something is new or gone; it does
-- not hang on accounts
abbrev pub Says : Type 1
Says = Kept → Pair → List ChangeAt → Text → Bool → Type 0

-- these changes are found, what is said of them is this text, by which something is new or gone or
-- not, and the list of what is gone has a row for each that makes something gone
pub record Finds (k : Kept) (pair : Pair) (says : Says) (text : Text) (is_grave : Bool) (list : Text) : Type 0 where
  pub changes : List ChangeAt
  pub are : AreChanges k pair changes
  pub said : says (no_accounts k) pair changes text is_grave
  pub listed : list ≡ gone_text changes
