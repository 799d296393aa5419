-- The text of a list of known findings.
use Rattle.std.specs.Prelude.{◌≡◌, ◌≢◌, ◌⊎◌, ℕ, ◌+◌, ◌<◌, ◌≤◌, List, [], ◌∷◌, ◌++◌, All, Option, Some, None, codes, flat_map, length, ⊤}
use Rattle.std.specs.{List.{filter_map}, List.Sorted.{IsPermutation}}
use Rattle.ocfl_tree.specs.Place.{Text}
use Rattle.ocfl_report.specs.{Line.{Line, line_of}, Text.{IsLineText}}
use Rattle.ocfl_messages.specs.declared.known.Reach.{Reach}
use Rattle.ocfl_messages.specs.declared.known.Reach.TheVariants.{One, Place, Branch}
use Rattle.ocfl_messages.specs.{declared.known.KnownEntry.{KnownEntry}, declared.list.KnownStop.{KnownStop}}
use Rattle.ocfl_messages.specs.declared.list.KnownStop.TheVariants as stop

-- and the most bytes
abbrev pub max_bytes : ℕ
max_bytes = 16777216

-- a report line; a code, a tab and a path; or the same with a slash behind the path. Of the last two
-- the line has the detail `-`
abbrev pub IsEntryAs : Reach → Text → Line → Type 0
IsEntryAs One t l = IsLineText (t ++ codes "\n") l
IsEntryAs Place t l = IsLineText (t ++ codes "\t-\n") l
IsEntryAs Branch t l = (path : Text) × (t ≡ path ++ codes "/") × IsLineText (path ++ codes "\t-\n") l

abbrev pub IsEntry : Text → KnownEntry → Type 0
IsEntry t e = IsEntryAs e.reach t (line_of e.line)

-- the first bytes are this word
abbrev pub BeginsWith : Text → Text → Type 0
BeginsWith t word = (rest : Text) × (t ≡ word ++ rest)

-- a line of what is gone names a loss, and no finding
abbrev pub NamesLoss : Text → Type 0
NamesLoss t = BeginsWith t (codes "object\t") ⊎ BeginsWith t (codes "undeclared\t") ⊎ BeginsWith t (codes "file\t") ⊎ BeginsWith t (codes "expected\t")

-- nothing, what begins with `#`, or a line of what is gone
abbrev pub IsRemark : Text → Type 0
IsRemark t = (t ≡ []) ⊎ BeginsWith t (codes "#") ⊎ NamesLoss t

-- a line without its line feed, and the entry that it is, unless it is a remark
abbrev pub Row : Type 0
Row = Text × Option KnownEntry

abbrev pub IsSaid : Text → Option KnownEntry → Type 0
IsSaid t None = IsRemark t
IsSaid t (Some e) = (IsRemark t → ⊥) × IsEntry t e

abbrev pub IsRow : Row → Type 0
IsRow r = All (λ c. c ≢ 10) r.0 × IsSaid r.0 r.1

abbrev pub row_text : Row → Text
row_text r = r.0 ++ 10 ∷ []

abbrev pub rows_text : List Row → Text
rows_text rs = flat_map row_text rs

abbrev pub entries_of : List Row → List KnownEntry
entries_of rs = filter_map (λ r. r.1) rs

-- the bytes are lines that have these entries
pub record IsList (b : Text) (es : List KnownEntry) : Type 0 where
  pub rows : List Row
  pub are : All IsRow rows
  pub is : b ≡ rows_text rows
  pub entries : es ≡ entries_of rows

-- the lines before this one are such, and this one is not: it is no entry and no remark, or has no
-- line feed
pub record IsBadRow (b : Text) (n : ℕ) : Type 0 where
  pub before : List Row
  pub rest : Text
  pub are : All IsRow before
  pub is : b ≡ rows_text before ++ rest
  pub more : rest ≢ []
  pub number : n ≡ length before + 1
  pub bad : (r : Row) (after : Text) → IsRow r → rest ≢ row_text r ++ after

-- the last line has its line feed
abbrev pub HasFeed : Text → Type 0
HasFeed b = (front : Text) × (b ≡ front ++ codes "\n")

-- the bytes, with the line feed that their last line may lack
abbrev pub IsEnded : Text → Text → Type 0
IsEnded b t = ((t ≡ b) × ((b ≡ []) ⊎ HasFeed b)) ⊎ ((t ≡ b ++ codes "\n") × (((b ≡ []) ⊎ HasFeed b) → ⊥))

-- the bytes are a list of these entries
pub record IsKnownText (b : Text) (es : List KnownEntry) : Type 0 where
  pub short : length b ≤ max_bytes
  pub text : Text
  pub ended : IsEnded b text
  pub list : IsList text es

-- and the entries are these, in some order
abbrev pub ListsEntries : Text → List KnownEntry → Type 0
ListsEntries b es = (read : List KnownEntry) × IsKnownText b read × IsPermutation read es

-- or their line with this number is the first that is none of a list
pub record IsBadLine (b : Text) (n : ℕ) : Type 0 where
  pub short : length b ≤ max_bytes
  pub text : Text
  pub ended : IsEnded b text
  pub row : IsBadRow text n

abbrev pub KnownStopsRightly : Text → KnownStop → Type 0
KnownStopsRightly b (stop.Line n) = IsBadLine b n
KnownStopsRightly b stop.Long = max_bytes < length b
KnownStopsRightly b stop.Read = ⊤
KnownStopsRightly b stop.Memory = ⊤

abbrev pub RowsStop : Text → KnownStop → Type 0
RowsStop b (stop.Line n) = IsBadRow b n
RowsStop b stop.Long = ⊥
RowsStop b stop.Read = ⊥
RowsStop b stop.Memory = ⊤
