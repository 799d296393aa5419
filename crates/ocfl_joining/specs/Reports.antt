-- What is seen of the closed reports of parts, and of the joined one.
use Rattle.std.specs.Prelude.{◌≡◌, ◌≢◌, ℕ, List, [], ◌∷◌, ◌++◌, Bool, true, false, Option, None}
use Rattle.std.specs.Io.BufRead.{take_through}
use Rattle.ocfl_tree.specs.Place.{Text}
use Rattle.ocfl_joining.specs.Folders.{Folders, no_folders}
use Rattle.ocfl_joining.specs.declared.reports.KeptMark.{KeptMark}
use Rattle.ocfl_joining.specs.declared.reports.KeptMark.TheVariants.{NotKept}

-- a joined report that was put: whether it is whole, and its bytes
pub record Put : Type 0 where
  pub whole : Bool
  pub bytes : Text

-- What stays as it is while reports are joined: of which cycle they are; whether the joined report with
-- which they are compared is whole, if they are; what the folders show; and the joined reports of the
-- other cycles.
pub record Rest : Type 0 where
  pub cycle : ℕ
  pub made : Option Bool
  pub folders : Folders
  pub others : ℕ → List Put

-- the bytes of the report of each part; with what it was closed; what is said of a joined report, whole
-- or not, that has these bytes, before it is put, if anything is; which reports were opened, in order;
-- what is not read yet of the last of these; the joined report so far; those that were put; and what
-- stays as it is
pub record Seen : Type 0 where
  pub bytes : ℕ → Text
  pub marks : ℕ → KeptMark
  pub word : Bool → Text → Option Text
  pub opened : List ℕ
  pub left : Text
  pub made : Text
  pub put : List Put
  pub rest : Rest

abbrev pub begun : Seen → Seen
begun s = record { bytes = s.bytes; marks = s.marks; word = s.word; opened = s.opened; left = s.left; made = []; put = s.put; rest = s.rest }

abbrev pub with_open : ℕ → Seen → Seen
with_open number s = record { bytes = s.bytes; marks = s.marks; word = s.word; opened = s.opened ++ number ∷ []; left = s.bytes number; made = s.made; put = s.put; rest = s.rest }

abbrev pub with_left : Text → Seen → Seen
with_left left s = record { bytes = s.bytes; marks = s.marks; word = s.word; opened = s.opened; left = left; made = s.made; put = s.put; rest = s.rest }

abbrev pub with_made : Text → Seen → Seen
with_made bytes s = record { bytes = s.bytes; marks = s.marks; word = s.word; opened = s.opened; left = s.left; made = s.made ++ bytes; put = s.put; rest = s.rest }

-- the joined report was put, and nothing is made then
abbrev pub with_put : Bool → Seen → Seen
with_put whole s = record { bytes = s.bytes; marks = s.marks; word = s.word; opened = s.opened; left = s.left; made = []; put = s.put ++ record { whole = whole; bytes = s.made } ∷ []; rest = s.rest }

-- the next line was read, with its line feed, or what is left; or nothing is left
pub record ReadsLine (more : Bool) (line : Text) (old new : Seen) : Type 0 where
  pub next : line ≡ take_through 10 old.left
  pub is : old.left ≡ line ++ new.left
  pub same : new ≡ with_left new.left old
  pub some : more ≡ true → line ≢ []
  pub end : more ≡ false → old.left ≡ []

-- the closed reports are as they were, and with what they were closed, and so is the rest
pub record SameReports (old new : Seen) : Type 0 where
  pub bytes : new.bytes ≡ old.bytes
  pub marks : new.marks ≡ old.marks
  pub rest : new.rest ≡ old.rest

abbrev pub no_rest : Rest
no_rest = record { cycle = 0; made = None; folders = no_folders; others = λ _. [] }

-- of reports of which nothing is known
abbrev pub nothing_seen : Seen
nothing_seen = record { bytes = λ _. []; marks = λ _. NotKept; word = λ _ _. None; opened = []; left = []; made = []; put = []; rest = no_rest }
