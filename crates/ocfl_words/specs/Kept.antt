-- Which lines are kept while two reports are compared, and what is noted by them.
use Rattle.std.specs.Prelude.{List, [], ◌∷◌, ◌++◌, is_some, if◌then◌else◌, map}
use Rattle.ocfl_report.specs.Line.{Line, is_finding_code, line_of}
use Rattle.ocfl_compare.specs.{Changes.{lines_at}, Seen.{Seen, change, line}}
use Rattle.ocfl_compare.specs.declared.side.Side.{Side}
use Rattle.ocfl_compare.specs.declared.side.Side.TheVariants.{Before, Now}
use Rattle.ocfl_messages.specs.declared.known.KnownEntry.{KnownEntry}
use Rattle.ocfl_words.specs.{Noted.{Noted, first_at, noted_in}, declared.noting.Noting.{Noting}}

-- The first finding of each code at the last place with one. These are kept with one line more; a code
-- that is among them is so at the line's place.
abbrev pub with_finding : List Line → Line → List Line
with_finding kept l = if is_some (first_at l.place l.code kept) then kept else lines_at l.place kept ++ l ∷ []

abbrev pub kept_with : List Line → Line → List Line
kept_with kept l = if is_finding_code l.code then with_finding kept l else kept

-- those of the report before and of this one
pub record Kept : Type 0 where
  pub before : List Line
  pub now : List Line

abbrev pub none_kept : Kept
none_kept = record { before = []; now = [] }

abbrev pub kept_seen : Kept → Side → Line → Kept
kept_seen k Before l = record { before = kept_with k.before l; now = k.now }
kept_seen k Now l = record { before = k.before; now = kept_with k.now l }

abbrev pub kept_by : Noting → Kept
kept_by n = record { before = map line_of n.last_before.items; now = map line_of n.last_now.items }

-- ---- while lines are seen and changes taken

abbrev pub kept_after : Kept → List Seen → Kept
kept_after k [] = k
kept_after k (line side l ∷ seen) = kept_after (kept_seen k side l) seen
kept_after k (change c ∷ seen) = kept_after k seen

-- each change is noted by the lines that were seen before it
abbrev pub noted_from : List KnownEntry → Kept → List Seen → List Noted
noted_from known k [] = []
noted_from known k (line side l ∷ seen) = noted_from known (kept_seen k side l) seen
noted_from known k (change c ∷ seen) = noted_in known k.before k.now c ∷ noted_from known k seen
