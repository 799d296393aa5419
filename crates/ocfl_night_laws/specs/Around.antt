-- What a part has around branches that were left out.
use Rattle.std.specs.Prelude.{⊤, ◌≡◌, ◌⊎◌, List, [], ◌∷◌, ◌++◌, true, not, Option, Some, None, filter}
use Rattle.std.specs.Ordering.{is_lt}
use Rattle.ocfl_tree.specs.{Place.{Place, begins, place_cmp}, StorageRoot.{StorageRoot}}
use Rattle.ocfl_report.specs.{Line.{Item}, declared.further.Further.{Further}}
use Rattle.ocfl_rules.specs.{Audit.{after}, Parts.{Part, within}}
use Rattle.ocfl_state.specs.declared.checkpoint_parts.Left.{Left}
use Rattle.ocfl_night.specs.Chain.{NoneBefore, past_branch}

-- So between where each of some branches was left out and that branch there was no item: what was
-- lost with it is its own.
abbrev pub AreNext : Further → StorageRoot → Part → List Left → Type 0
AreNext further root part [] = ⊤
AreNext further root part (l ∷ left) = NoneBefore further root part l.after l.place × AreNext further root (past_branch part l) left

-- a place is in one of some branches
abbrev pub IsInBranch : List Left → Place → Type 0
IsInBranch [] p = ⊥
IsInBranch (l ∷ left) p = (begins l.place p ≡ true) ⊎ IsInBranch left p

-- items that are not above a place
abbrev pub up_to : Option Place → List Item → List Item
up_to None items = []
up_to (Some p) items = filter (λ i. not (is_lt (place_cmp p i.place))) items

-- Of some items those of a part, above a place, without what was left out: those up to where the
-- first branch was left out, and from there on those that come after the branch.
abbrev pub around : Part → Option Place → List Left → List Item → List Item
around part from [] items = after (within part items) from
around part from (l ∷ left) items = up_to l.after (after (within part items) from) ++ around (past_branch part l) l.after left items
