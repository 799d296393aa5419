-- The order of what a walk keeps, and one step of it.
use Rattle.std.specs.Prelude.{ℕ, nat_le, List, Bool, true, false, not, Option, Some, None, map, filter, option_map, length, drop, ⊤, ◌≡◌, ◌<◌, ◌≤◌, ◌≢◌, [], ◌∷◌, ◌++◌, if◌then◌else◌}
use Rattle.std.specs.{Ordering.{is_lt}, List.{AllByRecursion}}
use Rattle.std.specs.declared.cmp.Ordering.TheVariants.{Less}
use Rattle.ocfl_tree.specs.Place.{Text, Place, text_cmp, place_cmp, begins}
use Rattle.ocfl_tree.specs.Ascending.{IsAscending, IsBeforeAll}
use Rattle.ocfl_tree.specs.{StorageRoot.{StorageRoot, max_entries}, declared.store.Entry.{Entry}}
use Rattle.ocfl_report.specs.declared.further.Further.{Further}
use Rattle.ocfl_inventory.specs.{Table.{IsFit, Table}, NextPath.{next_path}}
use Rattle.ocfl_rules.specs.Zone.{seen, max_listed_depth}
use Rattle.ocfl_rules.specs.Inventories.{notes}
use Rattle.ocfl_rules.specs.Due.{due}
use Rattle.ocfl_rules.specs.Walk.{seen_names}
use Rattle.ocfl_rules.specs.Stack.{NoneSeenBetween, NoneSeenAbove, Frame, IsStack, IsListed}
use Rattle.ocfl_item.specs.{Around.{IsTableAround}, declared.folder.Folder.{Folder}}
use Rattle.ocfl_item.specs.declared.meeting.Around.{Around}
use Rattle.ocfl_item.specs.declared.root.RootInventory.{RootInventory}
use Rattle.ocfl_walk.specs.{Ends.{is_past}, declared.end.End.{End}, declared.stand.Turn.{Turn}}
use Rattle.ocfl_walk.specs.declared.stand.Stand.{Stand}
use Rattle.ocfl_walk.specs.Standing.{levels, back, Pile, pile_of, frames_of, piles_in, HaveEntries}
use Rattle.ocfl_walk.specs.declared.stand.Turn.TheVariants as turn

-- without those in front of which nothing is left
abbrev pub trimmed_from : Place → List Entry → List Pile → List Pile → List Pile
trimmed_from d [] later ps = later
trimmed_from d (e ∷ es) later ps = (d, e ∷ es) ∷ ps

abbrev pub trimmed : List Pile → List Pile
trimmed [] = []
trimmed (p ∷ ps) = trimmed_from p.0 p.1 (trimmed ps) ps

-- ---- on every store

-- each listing is of a directory on the way to p, and what is left of it is above p
abbrev pub IsChain : Place → ℕ → List Frame → Type 0
IsChain p k [] = ⊤
IsChain p k (f ∷ fs) =
    (begins f.0 p ≡ true) × (length f.0 < k) × IsBeforeAll place_cmp p (map (λ n. f.0 ++ n ∷ []) f.1) × IsAscending text_cmp f.1 × IsChain f.0 (length f.0) fs

abbrev pub IsFitIf : Option Around → Type 0
IsFitIf None = ⊤
IsFitIf (Some a) = IsFit a.table

-- the last place is in the object
pub record IsAround (last : Place) (a : Around) : Type 0 where
  pub holds : begins a.place last ≡ true
  pub depth : length a.place ≤ max_listed_depth
  pub fit : IsFit a.table

abbrev pub IsAroundIf : Place → Option Around → Type 0
IsAroundIf last None = ⊤
IsAroundIf last (Some a) = IsAround last a

pub record IsOrderly (last : Place) (ps : List Pile) (around : Option Around) : Type 0 where
  pub chain : IsChain last levels (frames_of ps)
  pub few : AllByRecursion (λ p. length p.1 ≤ max_entries) ps
  pub object : IsAroundIf last around

-- nothing was taken yet, or all is in order
abbrev pub IsOrderlyIf : Option Place → List Pile → Option Around → Type 0
IsOrderlyIf None ps around = (ps ≡ []) × (around ≡ None)
IsOrderlyIf (Some last) ps around = IsOrderly last ps around

abbrev pub IsOrderlyStand : Stand → Type 0
IsOrderlyStand s = IsOrderlyIf s.last (piles_in s.last s.listings.items) s.around

-- ---- on a store that tells its tree

-- what is held besides, at a place: each name is one of its directory's listing, each entry what
-- that leads to, and the table is that of the object that holds the place
pub record IsHeld (further : Further) (root : StorageRoot) (stood : Place) (ps : List Pile) (around : Option Around) : Type 0 where
  pub listed : IsListed root (frames_of ps)
  pub entries : HaveEntries root ps
  pub table : IsTableAround further root stood around

-- ---- a step

-- the place of the next entry, if the first listing is not used up
abbrev pub next_in : Place → List Entry → Option Place
next_in d [] = None
next_in d (e ∷ es) = Some (d ++ e.name ∷ [])

-- the entries that are left of the first listing
abbrev pub top_of : List Pile → List Entry
top_of [] = []
top_of (p ∷ ps) = p.1

abbrev pub next_of : List Pile → Option Place
next_of [] = None
next_of (p ∷ ps) = next_in p.0 p.1

-- the place of the table's next path
abbrev pub path_from : Place → Option Around → Option Place
path_from last None = None
path_from last (Some a) = option_map (λ q. a.place ++ q) (next_path a.table (Some (drop (length a.place) last)))

-- the lesser of an entry and a path, the entry if they are one
abbrev pub turn_of : Option Place → Option Place → Turn
turn_of None None = turn.End
turn_of (Some e) None = turn.Entry e
turn_of None (Some b) = turn.Path b
turn_of (Some e) (Some b) = if is_lt (place_cmp b e) then turn.Path b else turn.Entry e

-- whether a turn leads past the end
abbrev pub is_turn_past : End → Turn → Bool
is_turn_past e turn.Base = is_past e []
is_turn_past e (turn.Entry x) = is_past e x
is_turn_past e (turn.Path x) = is_past e x
is_turn_past e turn.End = false

abbrev pub turn_before : End → Turn → Turn
turn_before e t = if is_turn_past e t then turn.End else t

-- the first entry was taken off
pub record IsTaken (old new : List Pile) (entry : Entry) : Type 0 where
  pub place : Place
  pub rest : List Entry
  pub others : List Pile
  pub old_is : old ≡ (place, entry ∷ rest) ∷ others
  pub new_is : new ≡ (place, rest) ∷ others

-- the stack after the first entry
abbrev pub popped_from : Place → List Entry → List Pile → List Frame
popped_from d [] ps = []
popped_from d (e ∷ es) ps = (d, map (λ x. x.name) es) ∷ frames_of ps

abbrev pub popped : List Pile → List Frame
popped [] = []
popped (p ∷ ps) = popped_from p.0 p.1 ps

-- where the walk comes to by a turn: at an entry with its own listing on top
abbrev pub place_by : StorageRoot → List Pile → Turn → Option (Place × List Frame)
place_by root ps turn.Base = None
place_by root ps (turn.Entry e) = Some (e, (e, seen_names root e) ∷ popped ps)
place_by root ps (turn.Path b) = Some (b, frames_of ps)
place_by root ps turn.End = None

-- the object, if a place is in it
abbrev pub still : Option Around → Place → Option Around
still None e = None
still (Some a) e = if begins a.place e then Some a else None

-- the object that a place is in, with what was met there if it is one
abbrev pub around_of : Option Around → Place → Option Table → Option RootInventory → Option Around
around_of around e None r = around
around_of around e (Some t) r = Some (record { place = e; table = t; root = r })

abbrev pub IsBelowNext : Place → Option Place → Type 0
IsBelowNext b None = ⊤
IsBelowNext b (Some e) = place_cmp b e ≡ Less

-- where the walk stood at last it goes on to x, with these listings left
pub record IsTurn (further : Further) (root : StorageRoot) (last x : Place) (fs : List Frame) : Type 0 where
  pub above : place_cmp last x ≡ Less
  pub none_seen : NoneSeenBetween root last x
  pub stack : IsStack root x fs
  pub listed : IsListed root fs
  pub some : notes further root None x ≢ [] → due further root (Some last) ≡ x ∷ due further root (Some x)
  pub none : notes further root None x ≡ [] → due further root (Some last) ≡ due further root (Some x)

-- what a turn comes to
abbrev pub TurnIs : Further → StorageRoot → Place → List Pile → Turn → Type 0
TurnIs further root last ps turn.Base = ⊥
TurnIs further root last ps (turn.Entry e) = IsTurn further root last e ((e, seen_names root e) ∷ popped ps)
TurnIs further root last ps (turn.Path b) = IsTurn further root last b (frames_of ps) × (seen root b ≡ None)
TurnIs further root last ps turn.End = NoneSeenAbove root last × (due further root (Some last) ≡ [])

-- the entries that are left of a listing, the next first
abbrev pub left_of_folder : Folder → List Entry
left_of_folder f = back (λ e. e) f.entries.items

abbrev pub left_names : Folder → List Text
left_names f = map (λ e. e.name) (left_of_folder f)

-- the listing of an entry goes on top, if there is one
abbrev pub pushed : Option Folder → List Pile → List Pile
pushed None ps = ps
pushed (Some f) ps = pile_of f ∷ ps

-- listed and put in order
pub record IsFairPile (e : Place) (f : Folder) : Type 0 where
  pub place : f.place ≡ e
  pub depth : length e ≤ max_listed_depth
  pub ascends : IsAscending text_cmp (left_names f)
  pub few : length (left_of_folder f) ≤ max_entries

-- ---- where a walk goes on with one name of a directory

-- those of some entries whose names are not less than one
abbrev pub from_name : Text → List Entry → List Entry
from_name n es = filter (λ e. not (is_lt (text_cmp e.name n))) es

-- the listings, of the deepest only those, if it is that of a directory of k names
abbrev pub cut_top : ℕ → Text → List Pile → List Pile
cut_top k n [] = []
cut_top k n (p ∷ ps) = if nat_le k (length ps) then (p.0, from_name n p.1) ∷ ps else p ∷ ps
