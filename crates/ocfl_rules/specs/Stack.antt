-- The walk over a stack of listings.
use Rattle.std.specs.Prelude.{◌≡◌, ℕ, zero, suc, is_some, option_map, ⊤, List, [], ◌∷◌, ◌++◌, if◌then◌else◌, Option, Some, None, filter, flat_map}
use Rattle.std.specs.{Ordering.{is_lt}, declared.cmp.Ordering.TheVariants.{Less}}
use Rattle.ocfl_tree.specs.Place.{Text, Place, text_cmp, place_cmp, begins}
use Rattle.ocfl_tree.specs.{Ascending.{ascending, IsAmong}, StorageRoot.{StorageRoot, Leaf, dir}}
use Rattle.ocfl_report.specs.{Line.{Item}, declared.further.Further.{Further}}
use Rattle.ocfl_inventory.specs.Table.{Table, paths_of}
use Rattle.ocfl_rules.specs.Zone.{Zone, inside, zone, seen, table_at, skipped, hierarchy}
use Rattle.ocfl_rules.specs.Audit.{Unread, candidates}
use Rattle.ocfl_rules.specs.Head.{on}
use Rattle.ocfl_rules.specs.Walk.{is_reached, item_at, items_under, names_below, seen_names}

-- ---- a stack of directories, the deepest first, each with its names that are still to be taken

abbrev pub Frame : Type 0
Frame = Place × List Text

abbrev pub place_of_frame : Frame → Place
place_of_frame f = f.0

abbrev pub names_left : Frame → List Text
names_left f = f.1

-- the items that a stack still leads to
abbrev pub left_in : List Item → Frame → List Item
left_in items f = flat_map (λ n. items_under (place_of_frame f ++ n ∷ []) items) (names_left f)

abbrev pub left_of : List Item → List Frame → List Item
left_of items fs = flat_map (left_in items) fs

-- the stack at d ++ q: on the way only greater names are left
abbrev pub entered_at : StorageRoot → Place → Place → List Frame → List Frame
entered_at root d [] fs = (d, names_below root d) ∷ fs
entered_at root d (n ∷ q) fs = entered_at root (d ++ n ∷ []) q ((d, filter (λ m. is_lt (text_cmp n m)) (names_below root d)) ∷ fs)

-- ---- what is seen, and a stack of listings

-- the places that are seen, in order
abbrev pub seen_places : StorageRoot → List Place
seen_places root = filter (λ p. is_some (seen root p)) (ascending place_cmp (candidates root))

-- what the listings of a stack still lead to
abbrev pub seen_in : List Place → Frame → List Place
seen_in ps f = flat_map (λ n. filter (begins (place_of_frame f ++ n ∷ [])) ps) (names_left f)

abbrev pub seen_left : List Place → List Frame → List Place
seen_left ps fs = flat_map (seen_in ps) fs

-- the listings at d ++ q: on the way only greater names are left
abbrev pub listed_at : StorageRoot → Place → Place → List Frame → List Frame
listed_at root d [] fs = (d, seen_names root d) ∷ fs
listed_at root d (n ∷ q) fs = listed_at root (d ++ n ∷ []) q ((d, filter (λ m. is_lt (text_cmp n m)) (seen_names root d)) ∷ fs)

-- why a place above last may have lines: it is seen, the table of the object that holds last names
-- it, or it is in an object that is seen above last
pub data Ahead (root : StorageRoot) (last p : Place) : Type 0 where
  in_sight : (leaf : Leaf) → seen root p ≡ Some leaf → Ahead root last p
  in_table : (o s q : Place) (t : Table) → zone root last ≡ inside o s → table_at root o ≡ Some t → IsAmong (paths_of t) q → p ≡ o ++ q → Ahead root last p
  in_later : (o q : Place) → seen root o ≡ Some dir → place_cmp last o ≡ Less → p ≡ o ++ q → Ahead root last p

-- no place that is seen is between last and x
abbrev pub NoneSeenBetween : StorageRoot → Place → Place → Type 0
NoneSeenBetween root last x = (p : Place) (leaf : Leaf) → seen root p ≡ Some leaf → place_cmp last p ≡ Less → place_cmp p x ≡ Less → ⊥

-- nor a path that the table of the object that holds last names
abbrev pub NoPathBetween : StorageRoot → Place → Place → Type 0
NoPathBetween root last x = (o s q : Place) (t : Table) → zone root last ≡ inside o s → table_at root o ≡ Some t → IsAmong (paths_of t) q → place_cmp last (o ++ q) ≡ Less → place_cmp (o ++ q) x ≡ Less → ⊥

abbrev pub NoneSeenAbove : StorageRoot → Place → Type 0
NoneSeenAbove root last = (p : Place) (leaf : Leaf) → seen root p ≡ Some leaf → place_cmp last p ≡ Less → ⊥

abbrev pub NoPathAbove : StorageRoot → Place → Type 0
NoPathAbove root last = (o s q : Place) (t : Table) → zone root last ≡ inside o s → table_at root o ≡ Some t → IsAmong (paths_of t) q → place_cmp last (o ++ q) ≡ Less → ⊥

-- a stack of listings leads to just what is seen above last
abbrev pub IsStack : StorageRoot → Place → List Frame → Type 0
IsStack root last fs = seen_left (seen_places root) fs ≡ filter (λ p. is_lt (place_cmp last p)) (seen_places root)

-- b is the least path of the table above s
pub record IsNextPath (t : Table) (s b : Place) : Type 0 where
  pub among : IsAmong (paths_of t) b
  pub above : place_cmp s b ≡ Less
  pub least : (q : Place) → IsAmong (paths_of t) q → place_cmp s q ≡ Less → place_cmp q b ≡ Less → ⊥

-- ---- the walk over a stack of listings and the table of one object, as the program takes it

-- each name in a stack is one of its directory's listing
abbrev pub IsListed : StorageRoot → List Frame → Type 0
IsListed root [] = ⊤
IsListed root (f ∷ fs) = ((n : Text) → IsAmong (names_left f) n → IsAmong (seen_names root (place_of_frame f)) n) × IsListed root fs

-- a place that comes next, and the stack after it
abbrev pub Next : Type 0
Next = Place × List Frame

-- the next entry of a stack; after it its own listing is on top, empty if it is not entered
abbrev pub entry_of : StorageRoot → Place → List Text → List Frame → Option Next → Option Next
entry_of root d [] fs later = later
entry_of root d (n ∷ ns) fs later = Some (d ++ n ∷ [], (d ++ n ∷ [], seen_names root (d ++ n ∷ [])) ∷ (d, ns) ∷ fs)

abbrev pub next_entry : StorageRoot → List Frame → Option Next
next_entry root [] = None
next_entry root (f ∷ fs) = entry_of root (place_of_frame f) (names_left f) fs (next_entry root fs)

abbrev pub first_of_list : List Place → Option Place
first_of_list [] = None
first_of_list (p ∷ ps) = Some p

-- the least path above s
abbrev pub least_path : Place → List Place → Option Place
least_path s ps = first_of_list (filter (λ q. is_lt (place_cmp s q)) (ascending place_cmp ps))

-- the next path of the table of the object that holds last
abbrev pub next_path_of : Place → Place → Option Table → Option Place
next_path_of o s None = None
next_path_of o s (Some t) = option_map (λ q. o ++ q) (least_path s (paths_of t))

abbrev pub next_path_in : StorageRoot → Zone → Option Place
next_path_in root skipped = None
next_path_in root hierarchy = None
next_path_in root (inside o s) = next_path_of o s (table_at root o)

abbrev pub next_path : StorageRoot → Place → Option Place
next_path root last = next_path_in root (zone root last)

-- the lesser of an entry and a path: a path below the entry leaves the stack as it is
abbrev pub lesser : List Frame → Option Next → Option Place → Option Next
lesser fs e None = e
lesser fs None (Some b) = Some (b, fs)
lesser fs (Some e) (Some b) = if is_lt (place_cmp b e.0) then Some (b, fs) else Some e

abbrev pub next_place : StorageRoot → Place → List Frame → Option Next
next_place root last fs = lesser fs (next_entry root fs) (next_path root last)

-- the items of the next k places
abbrev pub taken_with : Further → StorageRoot → Unread → (Place → List Frame → List Item) → Option Next → List Item
taken_with further root unread more None = []
taken_with further root unread more (Some x) = item_at further root unread x.0 ++ more x.0 x.1

abbrev pub taken : Further → ℕ → StorageRoot → Unread → Place → List Frame → List Item
taken further zero root unread last fs = []
taken further (suc k) root unread last fs = taken_with further root unread (taken further k root unread) (next_place root last fs)

-- the directories that the next k places make the walk list
abbrev pub lists_with : StorageRoot → (Place → List Frame → List Place) → Option Next → List Place
lists_with root more None = []
lists_with root more (Some x) = on (is_reached root x.0) x.0 ++ more x.0 x.1

abbrev pub lists : ℕ → StorageRoot → Place → List Frame → List Place
lists zero root last fs = []
lists (suc k) root last fs = lists_with root (lists k root) (next_place root last fs)
