-- What the state folders of all parts show, and that of their joined reports.
use Rattle.std.specs.Prelude.{ℕ, [], ◌++◌, Bool, false, Option, None}
use Rattle.ocfl_tree.specs.Place.{Text}
use Rattle.ocfl_joining.specs.declared.facts.FoundReport.{FoundReport}
use Rattle.ocfl_joining.specs.declared.reports.KeptMark.{KeptMark}
use Rattle.ocfl_joining.specs.declared.reports.KeptMark.TheVariants.{NotKept}

-- Of each cycle and each part, by its number: the bytes of the closed report, and with what it was
-- closed; the closed report that is there, with what was kept at its closing; and whether the part has
-- said what that found. Of each cycle, whether a joined report, whole or not, is there compressed, and
-- what is said of one that has these bytes, and how the path of one is shown. And what was said of parts
-- that keep a cycle from being joined, or left something out.
pub record Folders : Type 0 where
  pub bytes : ℕ → ℕ → Text
  pub marks : ℕ → ℕ → KeptMark
  pub found : ℕ → ℕ → Option FoundReport
  pub has_said : ℕ → ℕ → Bool
  pub packed : ℕ → Bool → Bool
  pub word : ℕ → Bool → Text → Text
  pub path : ℕ → Bool → Text
  pub noted : Text

abbrev pub no_folders : Folders
no_folders = record { bytes = λ _ _. []; marks = λ _ _. NotKept; found = λ _ _. None; has_said = λ _ _. false; packed = λ _ _. false; word = λ _ _ _. []; path = λ _ _. []; noted = [] }

-- one more text was said
abbrev pub with_noted : Text → Folders → Folders
with_noted text f = record { bytes = f.bytes; marks = f.marks; found = f.found; has_said = f.has_said; packed = f.packed; word = f.word; path = f.path; noted = f.noted ++ text }
