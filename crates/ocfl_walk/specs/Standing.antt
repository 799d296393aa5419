-- Where a walk stands: what is left of its listings, and the table of the object that holds its
-- last place.
use Rattle.std.specs.declared.alloc.Global.{Global}
use Rattle.std.specs.Prelude.{Vec, suc, take, ◌≡◌, ◌+◌, ◌*◌, ◌-◌, ◌^◌, ℕ, List, [], ◌∷◌, ◌++◌, Option, Some, None, map, filter, length}
use Rattle.std.specs.{Ordering.{is_lt}, List.{AllByRecursion}}
use Rattle.ocfl_tree.specs.{Place.{Place, place_cmp}, StorageRoot.{StorageRoot}, Listing.{kind_at}}
use Rattle.ocfl_tree.specs.declared.store.Entry.{Entry}
use Rattle.ocfl_report.specs.declared.further.Further.{Further}
use Rattle.ocfl_inventory.specs.Table.{paths_of}
use Rattle.ocfl_rules.specs.{Zone.{max_listed_depth}, Stack.{Frame, IsStack, IsListed}}
use Rattle.ocfl_item.specs.{Around.{IsTableAround}, declared.folder.Folder.{Folder}}
use Rattle.ocfl_item.specs.declared.meeting.Around.{Around}
use Rattle.ocfl_walk.specs.declared.stand.Stand.{Stand}

-- how many lengths the places of listed directories have, that of the storage root among them
abbrev pub levels : ℕ
levels = max_listed_depth + 1

-- ---- what is kept: the next entry is last in a listing, the deepest listing last

abbrev pub back_onto : {A B : Type 0} → (A → B) → List A → List B → List B
back_onto f [] ys = ys
back_onto f (x ∷ xs) ys = back_onto f xs (f x ∷ ys)

-- from the last to the first
abbrev pub back : {A B : Type 0} → (A → B) → List A → List B
back f xs = back_onto f xs []

-- a directory, and the entries of it that are left, the next one first
abbrev pub Pile : Type 0
Pile = Place × List Entry

abbrev pub pile_of : Folder → Pile
pile_of f = (f.place, back (λ e. e) f.entries.items)

-- the deepest first
abbrev pub piles_of : List Folder → List Pile
piles_of fs = back pile_of fs

abbrev pub frame_of : Pile → Frame
frame_of p = (p.0, map (λ e. e.name) p.1)

abbrev pub frames_of : List Pile → List Frame
frames_of ps = map frame_of ps

-- the place after which a walk stands; the storage root's if it has not begun
abbrev pub spot_of : Option Place → Place
spot_of None = []
spot_of (Some p) = p

-- the listings with their places: the one at index i is that of the first i names of p
abbrev pub folders_from : ℕ → Place → List (Vec Entry Global) → List Folder
folders_from i p [] = []
folders_from i p (v ∷ vs) = record { place = take i p; entries = v } ∷ folders_from (suc i) p vs

abbrev pub piles_at : Place → List (Vec Entry Global) → List Pile
piles_at p vs = piles_of (folders_from 0 p vs)

abbrev pub piles_in : Option Place → List (Vec Entry Global) → List Pile
piles_in last vs = piles_at (spot_of last) vs

-- ---- a number that each step of the walk lowers

-- a listing weighs enough for each entry that is left that all below an entry weighs less
abbrev pub weigh : ℕ → List Pile → ℕ
weigh w [] = 0
weigh w (p ∷ ps) = length p.1 * w ^ (levels - length ps) + weigh w ps

abbrev pub paths_above : Place → Option Around → ℕ
paths_above last None = 0
paths_above last (Some a) = length (filter (λ q. is_lt (place_cmp last (a.place ++ q))) (paths_of a.table))

unfoldable pub entry_weight : ℕ
entry_weight = 2 ^ 65

unfoldable pub size_of : Option Place → List Pile → Option Around → ℕ
size_of None ps around = entry_weight ^ 130
size_of (Some last) ps around = weigh entry_weight ps + paths_above last around

unfoldable pub stand_size : Stand → ℕ
stand_size s = size_of s.last (piles_in s.last s.listings.items) s.around

-- ---- on a store that tells its tree

-- each entry that is left is what its name leads to
abbrev pub AreEntries : StorageRoot → Place → List Entry → Type 0
AreEntries root d es = AllByRecursion (λ e. kind_at root d e.name ≡ Some e.kind) es

abbrev pub HaveEntries : StorageRoot → List Pile → Type 0
HaveEntries root ps = AllByRecursion (λ p. AreEntries root p.0 p.1) ps

pub record IsStanding (further : Further) (root : StorageRoot) (last : Place) (ps : List Pile) (around : Option Around) : Type 0 where
  pub stack : IsStack root last (frames_of ps)
  pub listed : IsListed root (frames_of ps)
  pub entries : HaveEntries root ps
  pub table : IsTableAround further root last around

-- the walk stands over this tree, with this last place
abbrev pub StandsAt : Further → StorageRoot → Stand → Option Place → Type 0
StandsAt further root s None = s.last ≡ None
StandsAt further root s (Some p) = (s.last ≡ Some p) × IsStanding further root p (piles_in s.last s.listings.items) s.around
