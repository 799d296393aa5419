-- The text of a list of objects: a path a line, as in reports.
use Rattle.std.specs.Prelude.{◌≡◌, ◌≢◌, ◌⊎◌, ℕ, ◌+◌, ◌==◌, ◌||◌, List, [], ◌∷◌, ◌++◌, length, All, Bool, if◌then◌else◌, map, flat_map, ⊤}
use Rattle.std.specs.List.{slice_split}
use Rattle.ocfl_tree.specs.{Place.{Text, Place}, Name.{IsPlace}}
use Rattle.ocfl_report.specs.Text.{place_text}
use Rattle.ocfl_compare.specs.declared.listing.ListStop.{ListStop}
use Rattle.ocfl_compare.specs.declared.listing.ListStop.TheVariants.{Line, Long, Failed, Memory}

-- a slash or a line feed
abbrev pub is_trimmed : ℕ → Bool
is_trimmed b = b == 47 || b == 10

abbrev pub trim_onto : ℕ → Text → Text
trim_onto b [] = if is_trimmed b then [] else b ∷ []
trim_onto b (c ∷ t) = b ∷ c ∷ t

-- without those at its end
abbrev pub trimmed : Text → Text
trimmed [] = []
trimmed (b ∷ t) = trim_onto b (trimmed t)

-- no path is in an empty line, nor in one that begins with `#`
abbrev pub path_of : Text → List Text
path_of [] = []
path_of (b ∷ t) = if b == 35 then [] else (b ∷ t) ∷ []

abbrev pub path_in : Text → List Text
path_in line = path_of (trimmed line)

abbrev pub list_lines : Text → List Text
list_lines b = slice_split (λ c. c == 10) b

abbrev pub listed_paths : Text → List Text
listed_paths b = flat_map path_in (list_lines b)

-- a place that an object may have: the storage root is none
pub record IsObjectPlace (p : Place) : Type 0 where
  pub names : IsPlace p
  pub below : p ≢ []

-- the bytes list these places
pub record IsList (b : Text) (ps : List Place) : Type 0 where
  pub places : All IsObjectPlace ps
  pub is : listed_paths b ≡ map place_text ps

-- the first line with a path that is that of no object
pub record IsBadListLine (b : Text) (n : ℕ) : Type 0 where
  pub before : List Text
  pub line : Text
  pub rest : List Text
  pub listed : List Place
  pub is : list_lines b ≡ before ++ line ∷ rest
  pub number : n ≡ length before + 1
  pub places : All IsObjectPlace listed
  pub paths : flat_map path_in before ≡ map place_text listed
  pub some : path_in line ≢ []
  pub bad : (p : Place) → IsObjectPlace p → path_in line ≢ place_text p ∷ []

-- the most lines that a list may have
abbrev pub max_lines : ℕ
max_lines = 10000000

-- one more line comes after those, also one without a line feed
pub record IsLongList (b : Text) : Type 0 where
  pub before : List Text
  pub line : Text
  pub rest : List Text
  pub is : list_lines b ≡ before ++ line ∷ rest
  pub many : length before ≡ max_lines
  pub some : (line ≢ []) ⊎ (rest ≢ [])

abbrev pub ListStopsRightly : Text → ListStop → Type 0
ListStopsRightly b (Line n) = IsBadListLine b n
ListStopsRightly b Long = IsLongList b
ListStopsRightly b Failed = ⊤
ListStopsRightly b Memory = ⊤
