-- What is noted of the changes between two reports: which line each is of, and whether it is a finding
-- that is known.
use Rattle.std.specs.Prelude.{◌&&◌, List, Bool, false, map, Option, Some, None}
use Rattle.std.specs.List.{find}
use Rattle.ocfl_tree.specs.Place.{Text, Place, place_eq}
use Rattle.ocfl_report.specs.{Line.{Line, is_finding_code}, declared.code.Code.{Code}}
use Rattle.ocfl_compare.specs.{Changes.{comparison, is_code}, Compared.{IsReport}}
use Rattle.ocfl_compare.specs.declared.change.{Change.{Change}, ChangeAt.{ChangeAt}}
use Rattle.ocfl_compare.specs.declared.change.Change.TheVariants.{Gone, Undeclared, FileGone, Unlooked, Found, Repaired, Missing, Rewritten, WentBack, NewVersion}
use Rattle.ocfl_messages.specs.{Known.{is_known}, declared.known.KnownEntry.{KnownEntry}}

-- a change; the line of the finding that it is of, if it is of one; and whether it is a finding that is
-- new and known
pub record Noted : Type 0 where
  pub at : ChangeAt
  pub line : Option Line
  pub is_known : Bool

abbrev pub noted : ChangeAt → Option Line → Bool → Noted
noted at line is_known = record { at = at; line = line; is_known = is_known }

abbrev pub changes_of : List Noted → List ChangeAt
changes_of ns = map (λ n. n.at) ns

-- ---- lines

abbrev pub is_finding_at : Place → Code → Line → Bool
is_finding_at p code l = place_eq p l.place && (is_finding_code l.code && is_code code l.code)

-- the first finding of a code at a place, if there is one among these lines
abbrev pub first_at : Place → Code → List Line → Option Line
first_at p code ls = find (is_finding_at p code) ls

-- of what is new the line of this report, and of what is repaired that of the report before
abbrev pub line_in : List Line → List Line → ChangeAt → Option Line
line_in before now c = by c.change
  where
    by : Change → Option Line
    by (Found code) = first_at c.place code now
    by (Repaired code) = first_at c.place code before
    by Gone = None
    by Undeclared = None
    by FileGone = None
    by Unlooked = None
    by Missing = None
    by Rewritten = None
    by WentBack = None
    by NewVersion = None

-- ---- what is known

-- an entry of the list names the line
abbrev pub is_named : List KnownEntry → Option Line → Bool
is_named known None = false
is_named known (Some l) = is_known known l

-- a finding that is new in a report with these lines, and that the list names: by its place, or by its
-- whole line
abbrev pub is_known_in : List KnownEntry → List Line → ChangeAt → Bool
is_known_in known now c = by c.change
  where
    by : Change → Bool
    by (Found code) = is_named known (first_at c.place code now)
    by Gone = false
    by Undeclared = false
    by FileGone = false
    by Unlooked = false
    by (Repaired code) = false
    by Missing = false
    by Rewritten = false
    by WentBack = false
    by NewVersion = false

-- ---- what is noted

-- between reports with these lines
abbrev pub noted_in : List KnownEntry → List Line → List Line → ChangeAt → Noted
noted_in known before now c = noted c (line_in before now c) (is_known_in known now c)

-- of all changes between the reports with these bytes, outside of these places, with the lines of this
-- one
pub record AreNoted (known : List KnownEntry) (left : List Place) (b n : Text) (Are : List Noted → List Line → Type 0) : Type 0 where
  pub before : List Line
  pub now : List Line
  pub is_before : IsReport b before
  pub is_now : IsReport n now
  pub are : Are (map (noted_in known before now) (comparison left before now)) now
