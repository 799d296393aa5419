-- Which level of the hierarchy is split, at which of its directories, and what is listed for it.
use Rattle.std.specs.Prelude.{◌≡◌, ◌≢◌, ◌⊎◌, ◌<◌, ◌≤◌, ℕ, zero, suc, ◌+◌, ◌-◌, ◌*◌, ◌/◌, ◌||◌, ◌==◌, nat_le, nat_lt, min, length, List, [], ◌∷◌, ◌++◌, Option, Some, None, if◌then◌else◌, slice_get}
use Rattle.std.specs.Option.{option_map_or, option_to_list}
use Rattle.ocfl_tree.specs.{Place.{Place}, StorageRoot.{StorageRoot}, Store.{Store, Did}}
use Rattle.ocfl_rules.specs.Zone.{max_listed_depth}
use Rattle.ocfl_item.specs.{Looking.{IsFront, failures_by}, declared.fault.Fault.{Fault}}
use Rattle.ocfl_item.specs.declared.fault.Fault.TheVariants as fault
use Rattle.ocfl_split.specs.Levels.{level, level_below, directories_below}

-- the most directories that are held
abbrev pub max_held : ℕ
max_held = 1000000

-- directories of this level are not listed
abbrev pub deepest_level : ℕ
deepest_level = max_listed_depth + 1

-- ---- the level that is split

-- how many directories of the next level a level leaves room for, and what is kept of those
-- above it
abbrev pub room_below : List Place → List Place → ℕ
room_below above ds = max_held - (length above + length ds)

-- the next level down, if it has any directories, and if there is room for them
abbrev pub next_level : StorageRoot → ℕ → List Place → Option (List Place)
next_level root room ds =
    let next = level_below root ds in
    if length next == 0 || nat_lt room (length next) then None else Some next

-- the level with more directories, or the lower if they have equally many
abbrev pub wider : List Place → List Place → List Place
wider above ds = if nat_le (length above) (length ds) then ds else above

-- of the levels above one, the widest is kept if it is wider than that one
abbrev pub kept : List Place → List Place → List Place
kept above ds = if nat_le (length above) (length ds) then [] else above

-- from a level on, at most k levels further down: the first that has at least `count` directories,
-- or else the widest that is reached, or that is above
unfoldable pub level_from : ℕ → StorageRoot → ℕ → List Place → List Place → List Place
level_from zero root count above ds = wider above ds
level_from (suc k) root count above ds =
    if nat_le count (length ds) then ds
    else option_map_or (λ next. level_from k root count (kept (wider above ds) next) next) (next_level root (room_below above ds) ds) (wider above ds)

-- of the whole hierarchy
unfoldable pub split_level : StorageRoot → ℕ → List Place
split_level root count = level_from deepest_level root count [] ([] ∷ [])

-- how many directories level n and the last one that is reached have together
abbrev pub held : StorageRoot → ℕ → ℕ → ℕ
held root n last = if n == last then length (level root n) else length (level root n) + length (level root last)

-- level n is the one that is split: no level is wider down to the last one that is reached, and
-- none below it equally wide. Each above the last has fewer directories than asked for, and level n
-- has enough, or there is none deeper than the last, or no room for the next
pub record IsSplitLevel (root : StorageRoot) (count n : ℕ) : Type 0 where
  pub last : ℕ
  pub reached : n ≤ last
  pub some : level root last ≢ []
  pub fewer : (k : ℕ) → k < last → length (level root k) < count
  pub widest : (k : ℕ) → k ≤ last → length (level root k) ≤ length (level root n)
  pub lowest : (k : ℕ) → n < k → k ≤ last → length (level root k) < length (level root n)
  pub ends : (count ≤ length (level root n)) ⊎ ((level root (last + 1) ≡ []) ⊎ ((max_held < held root n last + length (level root (last + 1))) ⊎ (last ≡ deepest_level)))

-- ---- at equal distances

-- of m parts of about equally many directories, the first directory of the parts from 1 to k, if
-- the very first part is 0
abbrev pub firsts : List Place → ℕ → ℕ → List Place
firsts ds m zero = []
firsts ds m (suc k) = firsts ds m k ++ option_to_list (slice_get ds ((k + 1) * length ds / m))

-- `count` parts, or one for each directory if these are fewer
abbrev pub cut_evenly : ℕ → List Place → List Place
cut_evenly count ds = let m = min count (length ds) in firsts ds m (m - 1)

abbrev pub separators_of : StorageRoot → ℕ → List Place
separators_of root count = cut_evenly count (split_level root count)

-- ---- what is listed for it

-- these directories, up to the first whose own directories no longer fit
abbrev pub listed_within : StorageRoot → ℕ → List Place → List Place
listed_within root room [] = []
listed_within root room (d ∷ ds) =
    let below = length (directories_below root d) in
    d ∷ (if nat_le below room then listed_within root (room - below) ds else [])

unfoldable pub listed_from : ℕ → StorageRoot → ℕ → List Place → List Place → List Place
listed_from zero root count above ds = []
listed_from (suc k) root count above ds =
    if nat_le count (length ds) then []
    else listed_within root (room_below above ds) ds ++ option_map_or (λ next. listed_from k root count (kept (wider above ds) next) next) (next_level root (room_below above ds) ds) []

-- the directories that are listed, level by level
unfoldable pub listed_for : StorageRoot → ℕ → List Place
listed_for root count = listed_from deepest_level root count [] ([] ∷ [])

-- ---- what calls did

-- from s to t all these directories were listed, in order; no file was opened, and nothing failed
pub record ListsAll (root : StorageRoot) (s t : Store) (listed : List Place) : Type 0 where
  pub over : s.tree ≡ root
  pub did : Did s t [] listed 0

-- the first of them were listed, in order, and then there was a fault; one of the store names the
-- last of these, which alone failed
pub record ListsStop (root : StorageRoot) (s t : Store) (listed : List Place) (why : Fault) : Type 0 where
  pub over : s.tree ≡ root
  pub listings : List Place
  pub did : Did s t [] listings (failures_by why)
  pub front : IsFront listings listed
  pub last : (q : Place) → why ≡ fault.Store q → (before : List Place) × (listings ≡ before ++ q ∷ [])
  pub failed : (q : Place) → why ≡ fault.Store q → t.failed_listings ≡ s.failed_listings ++ q ∷ []
