-- Where a walk over a part of a storage root begins, and what of the root is looked at from there
-- on.
use Rattle.std.specs.Prelude.{◌≡◌, List, [], ◌∷◌, ◌++◌, Bool, true, false, Option, Some, None, filter, if◌then◌else◌}
use Rattle.std.specs.{Ordering.{is_lt}, Option.{option_map_or}}
use Rattle.ocfl_tree.specs.{Place.{Place, place_cmp}, Ascending.{IsAmong}}
use Rattle.ocfl_tree.specs.{StorageRoot.{StorageRoot}, declared.store.Opening.{Opening}}
use Rattle.ocfl_report.specs.Line.{Item}
use Rattle.ocfl_rules.specs.Audit.{audit, after}
use Rattle.ocfl_rules.specs.Due.{due}
use Rattle.ocfl_rules.specs.Inventories.{is_hashed}
use Rattle.ocfl_rules.specs.Between.{looked_between, read_between}
use Rattle.ocfl_rules.specs.Zone.{beginnings}
use Rattle.ocfl_rules.specs.Parts.{Part, within, places_within}
use Rattle.ocfl_rules.specs.Trail.{reads_inventory, unread_of}
use Rattle.ocfl_item.specs.{Looking.{IsFront, LiesUpTo, way_to}, Auditing.{Audits, Fails, LiesIn}}
use Rattle.ocfl_report.specs.declared.further.Further.{Further}
use Rattle.ocfl_walk.specs.Before.{directory_of, place_before}
use Rattle.ocfl_walk.specs.declared.end.End.{End}
use Rattle.ocfl_scrub.specs.{Call.{Call}, Taking.{stop_place}, Types.{ReportStop}}
use Rattle.ocfl_scrub.specs.declared.part.Part.{Part as MadePart}

-- the part that a call is given
abbrev pub part_of : MadePart → Part
part_of p = record { under = p.end.under; from = p.from; below = p.end.below }

-- the end of a walk over a part
abbrev pub end_of : Part → End
end_of part = record { under = part.under; below = part.below }

-- the greater of two places, if there are two
abbrev pub greater_of : Place → Option Place → Place
greater_of p None = p
greater_of p (Some q) = if is_lt (place_cmp p q) then q else p

-- a place other than the storage root's
abbrev pub unless_root : Place → Option Place
unless_root [] = None
unless_root (n ∷ p) = Some (n ∷ p)

-- the place that a part begins with, if it does not begin with the storage root
abbrev pub first_place : Part → Option Place
first_place part = unless_root (greater_of part.under part.from)

-- less than a place, or not given
abbrev pub is_before : Option Place → Place → Bool
is_before above first = option_map_or (λ p. is_lt (place_cmp p first)) above true

-- where the walk goes down to: the place above which items are taken, and the directory of the
-- part's first place if that is greater, since what is at that place is met
abbrev pub entry_by : Option Place → Option Place → Option Place
entry_by None above = above
entry_by (Some first) above = if is_before above first then directory_of first else above

abbrev pub entry : Part → Option Place → Option Place
entry part above = entry_by (first_place part) above

-- the directories on the way down to there
abbrev pub way_by : Place → Option Place → List Place
way_by first above = if is_before above first then beginnings first else option_map_or way_to above []

abbrev pub way_in : Part → Option Place → List Place
way_in part above = way_by (greater_of part.under part.from) above

-- and the place after which it then stands
abbrev pub stand_by : StorageRoot → Option Place → Option Place → Option Place
stand_by root None above = above
stand_by root (Some first) above = if is_before above first then place_before root first else above

abbrev pub stand : StorageRoot → Part → Option Place → Option Place
stand root part above = stand_by root (first_place part) above

-- the places of a part's items above a place, and all of them for the start
abbrev pub due_within : Further → StorageRoot → Part → Option Place → List Place
due_within further root part from = places_within part (due further root from)

-- the items of a part above a place, where a trail shows what could not be read; all of them for
-- the start
abbrev pub items_in : Further → StorageRoot → List Opening → Part → Option Place → List Item
items_in further root trail part from = after (within part (audit further root (unread_of further root trail))) from

-- none of some places is before one of these directories
abbrev pub AreAhead : List Place → List Place → Type 0
AreAhead dirs ps = (d p : Place) → IsAmong dirs d → IsAmong ps p → is_lt (place_cmp p d) ≡ false

-- the place at which the store failed, if it did, lies in no directory after one of these places
abbrev pub FailsUpTo : Option Place → List Place → Type 0
FailsUpTo failed ps = (q p : Place) → failed ≡ Some q → IsAmong ps p → LiesUpTo (Some p) q

-- the directories of a part that are looked into between two places, and its objects whose
-- inventories are read
abbrev pub looked_in : StorageRoot → Part → Option Place → Option Place → List Place
looked_in root part from to = places_within part (looked_between root from to)

abbrev pub read_in : StorageRoot → Part → Option Place → Option Place → List Place
read_in root part from to = places_within part (read_between root from to)

-- ---- what a call over a part looks at

-- of these places each hashed file is right in one of these directories
abbrev pub FilesLieIn : Further → StorageRoot → List Place → List Place → Type 0
FilesLieIn further root places dirs = (p : Place) → IsAmong places p → is_hashed further root p ≡ true → LiesIn dirs p

-- it audited these places, the first of the part's above one, and came to another. Listed were the
-- first directories on the way down to where it began, and those of the part between the two places,
-- in order: among them the directory of each file. Read were at most the inventory of an object on
-- that way, and those of the part between the two places. None of these is listed or read twice,
-- since what is on the way lies before what is above it (a law of `parts`).
pub record LooksOver (call : Call) (part : Part) (from to : Option Place) (audited : List Place) (trail : List Opening) : Type 0 where
  pub down : List Place
  pub held : List Place
  pub audits : Audits call.further call.root call.before call.after audited (down ++ looked_in call.root part from to) (held ++ read_in call.root part from to) trail
  pub down_front : IsFront down (way_in part from)
  pub files_lie : FilesLieIn call.further call.root audited (down ++ looked_in call.root part from to)
  pub held_front : IsFront held (filter (reads_inventory call.root) (way_in part from))

-- it stopped, and had begun with these places: the directory of each file was listed
pub record StopsLooking (call : Call) (part : Part) (from : Option Place) (begun : List Place) (trail : List Opening) (why : ReportStop) : Type 0 where
  pub down : List Place
  pub listed : List Place
  pub held : List Place
  pub heads : List Place
  pub fails : Fails call.further call.root call.before call.after begun (down ++ listed) (held ++ heads) trail (stop_place why)
  pub down_front : IsFront down (way_in part from)
  pub listed_front : IsFront listed (looked_in call.root part from None)
  pub held_front : IsFront held (filter (reads_inventory call.root) (way_in part from))
  pub heads_front : IsFront heads (read_in call.root part from None)
  pub files_lie : FilesLieIn call.further call.root begun (down ++ listed)
