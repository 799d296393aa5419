-- The parts of a cursor's text before its digest line, in each version.
use Rattle.std.specs.Prelude.{◌≡◌, ◌⊎◌, ℕ, ◌^◌, ◌<◌, [], ◌∷◌, ◌++◌, codes}
use Rattle.ocfl_tree.specs.Place.{Text}
use Rattle.ocfl_report.specs.declared.further.Further.{Further}
use Rattle.ocfl_report.specs.declared.further.Further.TheVariants.{Nothing, Inventories}
use Rattle.ocfl_cursor.specs.Cursor.{State, Cursor, IsShortPlace, IsCursor, further_line, number_line, state_text, cursor_first_line, cursor_body, HasVersionOne, version_one_body}
use Rattle.ocfl_cursor.specs.declared.form.FormVersion.{FormVersion}
use Rattle.ocfl_cursor.specs.declared.form.FormVersion.TheVariants.{One, Two, Three}

-- what the audits of a version check further, and the version that is written for that
abbrev pub further_of : FormVersion → Further
further_of One = Nothing
further_of Two = Nothing
further_of Three = Inventories

abbrev pub version_of : Further → FormVersion
version_of Nothing = Two
version_of Inventories = Three

-- the first line of a version
abbrev pub version_line : FormVersion → Text
version_line One = codes "ocfl-scrub cursor 1\n"
version_line Two = cursor_first_line Nothing
version_line Three = cursor_first_line Inventories

-- the line of the files, which version 1 has not
abbrev pub files_line : FormVersion → ℕ → Text
files_line One files = []
files_line Two files = number_line (codes "files") files
files_line Three files = number_line (codes "files") files

-- as many files as the version gives, in a cursor's field
abbrev pub FilesFit : FormVersion → ℕ → Type 0
FilesFit One files = files ≡ 0
FilesFit Two files = files < 2 ^ 128
FilesFit Three files = files < 2 ^ 128

-- the lines of what is checked further, and of the numbers
abbrev pub counts_text : FormVersion → ℕ → ℕ → ℕ → ℕ → Text
counts_text v cycle runs spent files = further_line (further_of v) ++ number_line (codes "cycle") cycle ++ number_line (codes "runs") runs ++ number_line (codes "spent") spent ++ files_line v files

-- the numbers fit the fields of a cursor, and the version
pub record CountsFit (v : FormVersion) (n m k f : ℕ) : Type 0 where
  pub cycle : n < 2 ^ 64
  pub runs : m < 2 ^ 64
  pub spent : k < 2 ^ 128
  pub files : FilesFit v f

-- the text is the line of this state
pub record IsStateLine (line : Text) (s : State) : Type 0 where
  pub short : IsShortPlace s
  pub is : line ≡ state_text s ++ 10 ∷ []

-- the text is that of this cursor without its first line and its digest line, in a version
pub record AreLinesOf (v : FormVersion) (lines : Text) (c : Cursor) : Type 0 where
  pub keeps : IsCursor c
  pub files : FilesFit v c.files
  pub further : c.further ≡ further_of v
  pub is : lines ≡ counts_text v c.cycle c.runs c.spent c.files ++ state_text c.state ++ 10 ∷ []

-- the text is that of this cursor before the digest line, as it is written or in version 1
pub record IsBodyOf (body : Text) (c : Cursor) : Type 0 where
  pub keeps : IsCursor c
  pub is : (body ≡ cursor_body c) ⊎ (HasVersionOne c × (body ≡ version_one_body c))
