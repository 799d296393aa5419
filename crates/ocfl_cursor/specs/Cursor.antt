-- A cursor, and its text: what one run leaves for the next.
use Rattle.std.specs.Prelude.{◌≡◌, ℕ, ◌*◌, ◌^◌, ◌<◌, ◌≤◌, [], ◌∷◌, ◌++◌, length, codes, decimal, ⊤}
use Rattle.ocfl_tree.specs.{Place.{Text, Place}, Name.{IsPlace}}
use Rattle.ocfl_report.specs.Text.{place_text}
use Rattle.ocfl_report.specs.declared.further.Further.{Further}
use Rattle.ocfl_report.specs.declared.further.Further.TheVariants.{Nothing, Inventories}
use Rattle.ocfl_cursor.specs.Sealed.{seal_line}

-- where the next run begins: at the first item, after a place, or with the next cycle
pub data State : Type 0 where
  start : State
  behind : Place → State
  ended : State

-- the cycle, how many runs it has had, what they have spent and how many files they have started,
-- what the audit checks further, and where the next one begins
pub record Cursor : Type 0 where
  pub cycle : ℕ
  pub runs : ℕ
  pub spent : ℕ
  pub files : ℕ
  pub further : Further
  pub state : State

abbrev pub new_cursor : Further → Cursor
new_cursor further = record { cycle = 1; runs = 0; spent = 0; files = 0; further = further; state = start }

-- a place of at most 255 names
abbrev pub IsShortPlace : State → Type 0
IsShortPlace start = ⊤
IsShortPlace (behind p) = IsPlace p × (length p ≤ 255)
IsShortPlace ended = ⊤

-- the cursor's own rule
pub record IsCursor (c : Cursor) : Type 0 where
  pub first : 1 ≤ c.cycle
  pub cycle : c.cycle < 2 ^ 64
  pub runs : c.runs < 2 ^ 64
  pub spent : c.spent ≤ c.runs * 2 ^ 63
  pub files : c.files ≤ c.spent
  pub place : IsShortPlace c.state

-- ---- its text: seven lines, and one more if the audit checks the inventories of versions

abbrev pub number_line : Text → ℕ → Text
number_line name n = name ++ 32 ∷ decimal n ++ 10 ∷ []

abbrev pub state_text : State → Text
state_text start = codes "start"
state_text (behind p) = codes "after " ++ place_text p
state_text ended = codes "ended"

-- the line of what the audit checks further
abbrev pub further_line : Further → Text
further_line Nothing = []
further_line Inventories = codes "checks inventories\n"

-- the text without its first line and its last: what is shown of a cursor
abbrev pub cursor_lines : Cursor → Text
cursor_lines c = further_line c.further ++ number_line (codes "cycle") c.cycle ++ number_line (codes "runs") c.runs ++ number_line (codes "spent") c.spent
    ++ number_line (codes "files") c.files ++ state_text c.state ++ 10 ∷ []

-- the first line, which names the version
abbrev pub cursor_first_line : Further → Text
cursor_first_line Nothing = codes "ocfl-scrub cursor 2\n"
cursor_first_line Inventories = codes "ocfl-scrub cursor 3\n"

-- the text before its last line
abbrev pub cursor_body : Cursor → Text
cursor_body c = cursor_first_line c.further ++ cursor_lines c

abbrev pub digest_line : Text → Text
digest_line body = seal_line (codes "digest ") body

abbrev pub cursor_text : Cursor → Text
cursor_text c = cursor_body c ++ digest_line (cursor_body c)

-- ---- its text in version 1, which has no line of files

-- a cursor without files, of an audit that checks nothing further, has such a text
pub record HasVersionOne (c : Cursor) : Type 0 where
  pub files : c.files ≡ 0
  pub further : c.further ≡ Nothing

abbrev pub version_one_body : Cursor → Text
version_one_body c = codes "ocfl-scrub cursor 1\n" ++ number_line (codes "cycle") c.cycle ++ number_line (codes "runs") c.runs
    ++ number_line (codes "spent") c.spent ++ state_text c.state ++ 10 ∷ []

abbrev pub version_one_text : Cursor → Text
version_one_text c = version_one_body c ++ digest_line (version_one_body c)
