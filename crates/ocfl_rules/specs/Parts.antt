-- Parts of a storage root, so that many processes can share it: what is in them, and what they
-- cost.
use Rattle.std.specs.Prelude.{ℕ, ◌&&◌, ◌||◌, List, [], ◌∷◌, ◌++◌, Bool, true, not, if◌then◌else◌, Option, Some, None, is_some, map, filter, flat_map}
use Rattle.std.specs.Ordering.{is_lt}
use Rattle.ocfl_tree.specs.{Place.{Text, Place, place_cmp, begins}, StorageRoot.{StorageRoot}}
use Rattle.ocfl_report.specs.{Line.{Item}, declared.further.Further.{Further}}
use Rattle.ocfl_rules.specs.Lines.{is_empty}
use Rattle.ocfl_rules.specs.Audit.{Unread, audit, total_cost}
use Rattle.ocfl_rules.specs.Runs.{total_files}

-- the places at `under` and below it, not less than `from` and less than `below`, if these are
-- given; no item need be at any of them
pub record Part : Type 0 where
  pub under : Place
  pub from : Option Place
  pub below : Option Place

-- all places
abbrev pub whole : Part
whole = record { under = []; from = None; below = None }

-- a place and all below it
abbrev pub branch : Place → Part
branch p = record { under = p; from = None; below = None }

-- ---- what is in a part

-- not less than an end, if there is one
abbrev pub is_from : Option Place → Place → Bool
is_from None p = true
is_from (Some a) p = not (is_lt (place_cmp p a))

-- less than an end, if there is one
abbrev pub is_below : Option Place → Place → Bool
is_below None p = true
is_below (Some b) p = is_lt (place_cmp p b)

-- whether a place is in a part
abbrev pub lies_in : Part → Place → Bool
lies_in part p = begins part.under p && (is_from part.from p && is_below part.below p)

-- a part without a branch and without ends
abbrev pub is_whole : Part → Bool
is_whole part = is_empty part.under && not (is_some part.from || is_some part.below)

-- those whose place is in a part, in their order; the whole has all
abbrev pub kept : {A : Type 0} → Part → (A → Place) → List A → List A
kept part place_of xs = if is_whole part then xs else filter (λ x. lies_in part (place_of x)) xs

-- the items of a part
abbrev pub within : Part → List Item → List Item
within part items = kept part (λ i. i.place) items

-- and its places
abbrev pub places_within : Part → List Place → List Place
places_within part places = kept part (λ p. p) places

-- ---- consecutive parts

-- the parts that separators make of what is from a place on
abbrev pub parts_from : Option Place → List Place → List Part
parts_from from [] = record { under = []; from = from; below = None } ∷ []
parts_from from (s ∷ separators) = record { under = []; from = from; below = Some s } ∷ parts_from (Some s) separators

-- the parts that separators make of the whole: one more than there are separators, each of which
-- begins a part
abbrev pub parts_of : List Place → List Part
parts_of separators = parts_from None separators

-- what each part costs, and how many files it has
abbrev pub costs_of : List Part → List Item → List ℕ
costs_of parts items = map (λ part. total_cost (within part items)) parts

abbrev pub file_counts : List Part → List Item → List ℕ
file_counts parts items = map (λ part. total_files (within part items)) parts

-- ---- parts that are audited apart

-- the files in a part that an audit could not read
abbrev pub unread_in : Part → Unread → Unread
unread_in part unread = kept part (λ e. e.0) unread

-- what the audits of several parts could not read, each in its own part
abbrev pub together : List (Part × Unread) → Unread
together parts = flat_map (λ e. unread_in e.0 e.1) parts

-- the items of each part, by what its own audit could read
abbrev pub audited_apart : Further → StorageRoot → List (Part × Unread) → List Item
audited_apart further root parts = flat_map (λ e. within e.0 (audit further root e.1)) parts

-- ---- a branch between two separators

-- the end of the branch of the name n in d: that name with the byte 1 after it
abbrev pub branch_end : Place → Text → Place
branch_end d n = d ++ (n ++ 1 ∷ []) ∷ []

-- the part that these two separators enclose
abbrev pub enclosed : Place → Text → Part
enclosed d n = record { under = []; from = Some (d ++ n ∷ []); below = Some (branch_end d n) }
