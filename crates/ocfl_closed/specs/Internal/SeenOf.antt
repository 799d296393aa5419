-- What is seen of the reports of a pair of cycles.
use Rattle.std.specs.Prelude.{◌≡◌, ◌++◌, [], List, Option, Some, None}
use Rattle.ocfl_tree.specs.Place.{Place}
use Rattle.ocfl_compare.specs.{Compared.{IsCompared}, Expected.{IsSearched}, Seen.{Seen}}
use Rattle.ocfl_accounts.specs.{Cycle.{Cycle}, Kept.{Kept}}
use Rattle.ocfl_closed.specs.Internal.Takes.{within}

-- of a report and the one before, outside of what either left out; of one that is compared with none
-- its lines
abbrev pub IsSeenSince : Kept → Cycle → Option Cycle → List Seen → Type 0
IsSeenSince k now None seen = IsCompared now.left [] (k.reports now.cycle) (λ all. seen ≡ within [] all)
IsSeenSince k now (Some before) seen = IsCompared (now.left ++ before.left) (k.reports before.cycle) (k.reports now.cycle) (λ all. seen ≡ all)

-- and of the last whole one, with the changes in the places that the report before alone left out
abbrev pub IsSeenSinceWhole : Kept → Cycle → List Place → Option Cycle → List Seen → Type 0
IsSeenSinceWhole k now again None seen = seen ≡ []
IsSeenSinceWhole k now again (Some whole) seen = IsCompared now.left (k.reports whole.cycle) (k.reports now.cycle) (λ all. seen ≡ within again all)

-- and of the listed objects that are missing
abbrev pub IsSeenMissing : Kept → Cycle → Option (List Place) → List Seen → Type 0
IsSeenMissing k now None seen = seen ≡ []
IsSeenMissing k now (Some listed) seen = IsSearched now.left listed (k.reports now.cycle) (λ all. seen ≡ all)
