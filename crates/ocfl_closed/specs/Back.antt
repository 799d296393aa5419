-- Which objects are back.
--
-- The lists of what is gone of earlier cycles are read, the last one first. An object that one of
-- them calls gone or no longer declared is back if the report before has no line of an object there
-- and this one has one: so it is said once.
use Rattle.std.specs.Prelude.{◌≡◌, ◌≢◌, ℕ, ◌-◌, ◌==◌, ◌&&◌, List, [], ◌∷◌, ◌++◌, All, Bool, true, false, Option, Some, None, filter, flat_map, take, if◌then◌else◌, zero, suc}
use Rattle.std.specs.List.{list_any}
use Rattle.ocfl_tree.specs.{Place.{Text, Place, place_cmp}, Ascending.{ascending}, Name.{IsPlace}}
use Rattle.ocfl_report.specs.Line.{Line}
use Rattle.ocfl_codes.specs.Kinds.{tells_object}
use Rattle.ocfl_compare.specs.{Changes.{lines_at}, Compared.{IsReport}, Expected.{is_missing}, Gone.{gone_row, gone_text, gone_word}}
use Rattle.ocfl_compare.specs.declared.change.{Change.{Change}, ChangeAt.{ChangeAt}}
use Rattle.ocfl_compare.specs.declared.change.Change.TheVariants.{Gone, Undeclared, FileGone, Unlooked, Found, Repaired, Missing, Rewritten, WentBack, NewVersion}
use Rattle.ocfl_accounts.specs.{Cycle.{Cycle}, Kept.{Kept}, declared.pair.Pair.{Pair}}

-- ---- what lists call gone

abbrev pub is_lost_object : Change → Bool
is_lost_object Gone = true
is_lost_object Undeclared = true
is_lost_object FileGone = false
is_lost_object Unlooked = false
is_lost_object (Found code) = false
is_lost_object (Repaired code) = false
is_lost_object Missing = false
is_lost_object Rewritten = false
is_lost_object WentBack = false
is_lost_object NewVersion = false

-- an object that is gone or no longer declared
abbrev pub lost_object : ChangeAt → List Place
lost_object c = if is_lost_object c.change then c.place ∷ [] else []

abbrev pub lost_objects : List ChangeAt → List Place
lost_objects cs = flat_map lost_object cs

-- the list has a row for each of these changes
pub record IsListOf (list : Text) (cs : List ChangeAt) : Type 0 where
  pub places : All (λ c. IsPlace c.place) cs
  pub is : list ≡ gone_text cs

-- the row of one of them, with its line feed: not each change has one
pub record IsRowOf (row : Text) (c : ChangeAt) : Type 0 where
  pub place : IsPlace c.place
  pub word : gone_word c.change ≢ []
  pub is : row ≡ gone_row c

-- no list has these bytes
abbrev pub IsNoList : Text → Type 0
IsNoList list = (cs : List ChangeAt) → IsListOf list cs → ⊥

-- a list is there, and it is none
abbrev pub IsBadList : Option Text → Type 0
IsBadList None = ⊥
IsBadList (Some list) = IsNoList list

-- a list, if it is there, calls these objects gone or no longer declared
abbrev pub AreLost : Option Text → List Place → Type 0
AreLost None ps = ps ≡ []
AreLost (Some list) ps = (cs : List ChangeAt) × (IsListOf list cs × (ps ≡ lost_objects cs))

-- no cycle has the number 0
abbrev pub list_of : (ℕ → Option Text) → ℕ → Option Text
list_of lists cycle = if cycle == 0 then None else lists cycle

-- and so many lists before that of a cycle, the last one first
abbrev pub AreLostBefore : (ℕ → Option Text) → ℕ → ℕ → List Place → Type 0
AreLostBefore lists cycle zero ps = ps ≡ []
AreLostBefore lists cycle (suc n) ps =
    (later : List Place) × ((earlier : List Place) × (AreLostBefore lists cycle n later × (AreLost (list_of lists (cycle - suc n)) earlier × (ps ≡ later ++ earlier))))

-- how many lists are read, and how many of their objects are looked for
abbrev pub most_lists : ℕ
most_lists = 999

abbrev pub most_objects : ℕ
most_objects = 1000000

-- the lists that are read call these objects gone or no longer declared
pub record AreLostLately (lists : ℕ → Option Text) (cycle : ℕ) (ps : List Place) : Type 0 where
  pub count : ℕ
  pub are : AreLostBefore lists cycle count ps
  pub all : count ≡ most_lists

-- ---- what is back

-- there was no line of an object and there is one, outside of what was left out
abbrev pub is_back : List Place → List Line → List Line → Place → Bool
is_back left before now p = is_missing left before p && list_any tells_object (lines_at p now)

-- those of some objects that are back between two reports, in order, each once
abbrev pub AreBackOf : List Place → List Place → Text → Text → List Place → Type 0
AreBackOf left objects b n ps = (before now : List Line) → IsReport b before → IsReport n now → ps ≡ filter (is_back left before now) (ascending place_cmp objects)

-- those that are back since the report before, outside of what either left out
abbrev pub AreBackSince : Kept → Cycle → Option Cycle → List Place → Type 0
AreBackSince k now None ps = ps ≡ []
AreBackSince k now (Some before) ps =
    (lost : List Place) × (AreLostLately k.lists now.cycle lost × AreBackOf (now.left ++ before.left) (take most_objects lost) (k.reports before.cycle) (k.reports now.cycle) ps)

-- those that are back in a closed cycle; none in one whose report lost lines
abbrev pub AreBack : Kept → Pair → List Place → Type 0
AreBack k pair ps = (pair.closed.lost ≡ true → ps ≡ []) × (pair.closed.lost ≡ false → AreBackSince k pair.closed pair.before ps)
