-- Which closed reports of parts are joined.
use Rattle.std.specs.Prelude.{ℕ, zero, suc, ◌+◌, ◌-◌, ◌==◌, ◌&&◌, nat_lt, nat_le, max, List, [], ◌∷◌, ◌++◌, length, filter, flat_map, is_some, Bool, true, false, not, if◌then◌else◌, Option, Some, None, slice_get}
use Rattle.std.specs.List.{find}
use Rattle.ocfl_tree.specs.Place.{Text, Place, text_eq, place_eq}
use Rattle.ocfl_report.specs.declared.further.Further.{Further}
use Rattle.ocfl_report.specs.declared.further.Further.TheVariants.{Nothing, Inventories}
use Rattle.ocfl_separators.specs.Separators.{start_of_part, end_of_part}
use Rattle.ocfl_joining.specs.declared.part.MissingPart.{MissingPart}
use Rattle.ocfl_joining.specs.declared.part.PartFault.{PartFault}
use Rattle.ocfl_joining.specs.declared.part.PartFault.TheVariants.{NoPart, NotClosed, OtherRoot, OtherPart, OtherAudit, OtherCycle, ClosingUnsaid, FewNames, Incomplete}

-- What is known of the report that a part closed in a cycle: which storage root the part is of, in
-- whatever form; where it begins, and below which place it stays; what its audit checks further; the
-- cycle; whether nothing of the report was lost or left out; whether what it has new and gone was said;
-- how many names the storage root had when the cycle began; and the places that were left out.
pub record KnownPart : Type 0 where
  pub root : Text
  pub from : Option Place
  pub below : Option Place
  pub further : Further
  pub cycle : ℕ
  pub whole : Bool
  pub has_said : Bool
  pub names : Option ℕ
  pub left : List Place

-- the numbers of so many parts, from 1
abbrev pub numbers : ℕ → List ℕ
numbers zero = []
numbers (suc n) = numbers n ++ (n + 1) ∷ []

-- ---- one part

abbrev pub same_end : Option Place → Option Place → Bool
same_end None None = true
same_end None (Some q) = false
same_end (Some p) None = false
same_end (Some p) (Some q) = place_eq p q

-- the separators make a part of this number, from 1
abbrev pub is_part : List Place → ℕ → Bool
is_part separators number = nat_lt 0 number && nat_le number (length separators + 1)

abbrev pub has_ends : KnownPart → Option Place → Option Place → Bool
has_ends part from below = same_end part.from from && same_end part.below below

-- two audits check the same
abbrev pub check_same : Further → Further → Bool
check_same Nothing Nothing = true
check_same Nothing Inventories = false
check_same Inventories Nothing = false
check_same Inventories Inventories = true

-- less than half of the most
abbrev pub is_few : ℕ → Option ℕ → Bool
is_few most None = false
is_few most (Some names) = nat_lt names (most - names)

-- what is wrong with a part that has these ends, the first of these, beside others whose audits check
-- this further; `most` is the most names that one of the parts saw in the storage root
abbrev pub closed_fault : Text → Further → ℕ → ℕ → Option Place → Option Place → KnownPart → Option PartFault
closed_fault root further cycle most from below part =
    if not (text_eq part.root root) then Some OtherRoot
    else (if not (has_ends part from below) then Some OtherPart
    else (if not (check_same part.further further) then Some OtherAudit
    else (if not (part.cycle == cycle) then Some OtherCycle
    else (if not part.has_said then Some ClosingUnsaid
    else (if is_few most part.names then Some FewNames
    else (if not part.whole then Some Incomplete else None))))))

abbrev pub fault_of : List Place → Text → Further → ℕ → ℕ → ℕ → Option KnownPart → Option PartFault
fault_of separators root further cycle most number None = if is_part separators number then Some NotClosed else Some NoPart
fault_of separators root further cycle most number (Some part) =
    if is_part separators number then closed_fault root further cycle most (start_of_part separators number) (end_of_part separators number) part else Some NoPart

-- ---- all parts

abbrev pub names_of : Option KnownPart → ℕ
names_of None = 0
names_of (Some part) = names_or_none part.names
  where
    names_or_none : Option ℕ → ℕ
    names_or_none None = 0
    names_or_none (Some names) = names

-- which storage root the first part is of that is known
abbrev pub root_of : List (Option KnownPart) → Text
root_of parts = by (find (λ part. is_some part) parts)
  where
    by : Option (Option KnownPart) → Text
    by None = []
    by (Some None) = []
    by (Some (Some part)) = part.root

-- what the audit of the first part that is known checks further; nothing if none is known
abbrev pub further_of : List (Option KnownPart) → Further
further_of parts = by (find (λ part. is_some part) parts)
  where
    by : Option (Option KnownPart) → Further
    by None = Nothing
    by (Some None) = Nothing
    by (Some (Some part)) = part.further

-- the most names that one of them saw in the storage root; 0 if no number is known
abbrev pub most_names : List (Option KnownPart) → ℕ
most_names [] = 0
most_names (part ∷ parts) = max (names_of part) (most_names parts)

-- what is known of the part with a number, from 1
abbrev pub part_at : List (Option KnownPart) → ℕ → Option KnownPart
part_at parts number = at (slice_get parts (number - 1))
  where
    at : Option (Option KnownPart) → Option KnownPart
    at None = None
    at (Some part) = part

abbrev pub named : ℕ → Option PartFault → List MissingPart
named number None = []
named number (Some fault) = record { part = number; fault = fault } ∷ []

-- the part with a number, if something is wrong with it
abbrev pub missing_at : List Place → Text → ℕ → List (Option KnownPart) → ℕ → List MissingPart
missing_at separators root cycle parts number = named number (fault_of separators root (further_of parts) cycle (most_names parts) number (part_at parts number))

-- how many parts there are: those that the separators make, and those of which something is known
abbrev pub part_count : List Place → List (Option KnownPart) → ℕ
part_count separators parts = max (length parts) (length separators + 1)

-- all parts with which something is wrong
abbrev pub missing_of : List Place → Text → ℕ → List (Option KnownPart) → List MissingPart
missing_of separators root cycle parts = flat_map (missing_at separators root cycle parts) (numbers (part_count separators parts))

-- nothing is wrong with any part
abbrev pub are_right : List MissingPart → Bool
are_right [] = true
are_right (m ∷ ms) = false

-- ---- what keeps parts from being joined

-- a report that is not whole is joined too
abbrev pub hinders : PartFault → Bool
hinders Incomplete = false
hinders NoPart = true
hinders NotClosed = true
hinders OtherRoot = true
hinders OtherPart = true
hinders OtherAudit = true
hinders OtherCycle = true
hinders ClosingUnsaid = true
hinders FewNames = true

-- the parts that keep all of them from being joined
abbrev pub hindering_of : List Place → Text → ℕ → List (Option KnownPart) → List MissingPart
hindering_of separators root cycle parts = filter (λ m. hinders m.fault) (missing_of separators root cycle parts)

-- the places that a part left out
abbrev pub left_by : Option KnownPart → List Place
left_by None = []
left_by (Some part) = part.left

-- all that was left out, part by part
abbrev pub left_of : List (Option KnownPart) → List Place
left_of parts = flat_map left_by parts
