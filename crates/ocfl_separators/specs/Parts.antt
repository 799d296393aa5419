-- Bytes that are the text of separators, and why others are not.
use Rattle.std.specs.Prelude.{◌≡◌, ◌≢◌, ℕ, ◌+◌, ◌≤◌, List, [], ◌∷◌, ◌++◌, length}
use Rattle.ocfl_tree.specs.Place.{Text, Place}
use Rattle.ocfl_separators.specs.Separators.{AreSeparators, part_line, parts_text}

-- the most separators that are read
abbrev pub max_separators : ℕ
max_separators = 100000

-- and the most bytes
abbrev pub max_bytes : ℕ
max_bytes = 16777216

-- the bytes are the text of these separators
pub record IsPartsText (b : Text) (ps : List Place) : Type 0 where
  pub separators : AreSeparators ps
  pub few : length ps ≤ max_separators
  pub short : length b ≤ max_bytes
  pub is : b ≡ parts_text ps

-- the first lines of the bytes are those of these separators, and there is more
pub record BeginsWith (b : Text) (ps : List Place) (rest : Text) : Type 0 where
  pub separators : AreSeparators ps
  pub is : b ≡ parts_text ps ++ rest
  pub more : rest ≢ []

-- the lines before this one are those of separators, and this one is not the line of one more: no
-- place with its line feed, or not above the last
pub record IsFirstBad (b : Text) (n : ℕ) : Type 0 where
  pub before : List Place
  pub rest : Text
  pub begins : BeginsWith b before rest
  pub number : n ≡ length before + 1
  pub counted : n ≤ max_separators
  pub bad : (p : Place) (after : Text) → AreSeparators (before ++ p ∷ []) → rest ≢ part_line p ++ after

-- as many lines as there may be are those of separators, and there is one more
pub record HasMoreLines (b : Text) : Type 0 where
  pub before : List Place
  pub rest : Text
  pub begins : BeginsWith b before rest
  pub all : length before ≡ max_separators

-- what is read of bytes of at most that length
pub record IsBadLine (b : Text) (n : ℕ) : Type 0 where
  pub short : length b ≤ max_bytes
  pub first : IsFirstBad b n
