-- Findings that are known, and the text of a list of them.
use Rattle.std.specs.{Prelude.{List, Bool, ◌&&◌, not}, List.{filter, list_any}}
use Rattle.std.specs.declared.cmp.Ordering.{Ordering}
use Rattle.ocfl_tree.specs.Place.{Place as Spot, place_cmp, text_eq, place_eq, begins}
use Rattle.ocfl_report.specs.{Line.{Line, line_of}, Text.{code_text}, declared.code.Code.{Code}}
use Rattle.ocfl_messages.specs.{Finding.{Finding}, declared.known.Reach.{Reach}}
use Rattle.ocfl_messages.specs.declared.known.Reach.TheVariants.{One, Place, Branch}
use Rattle.ocfl_messages.specs.declared.known.KnownEntry.{KnownEntry}

-- ---- what a list names

abbrev pub code_eq : Code → Code → Bool
code_eq c d = text_eq (code_text c) (code_text d)

-- one finding with its detail; all of a code at a place; all of a code at a place and below it
abbrev pub reaches : Reach → Line → Line → Bool
reaches One m l = place_eq m.place l.place && text_eq m.detail l.detail
reaches Place m l = place_eq m.place l.place
reaches Branch m l = begins m.place l.place

abbrev pub names : Line → KnownEntry → Bool
names l e = code_eq e.line.code l.code && reaches e.reach (line_of e.line) l

abbrev pub is_known : List KnownEntry → Line → Bool
is_known es l = list_any (names l) es

-- entries by their places
abbrev pub entry_cmp : KnownEntry → KnownEntry → Ordering
entry_cmp e f = place_cmp e.line.place f.line.place

-- the entry is of this place, and names the line
abbrev pub names_at : Spot → Line → KnownEntry → Bool
names_at p l e = place_eq e.line.place p && names l e

abbrev pub is_unknown : List KnownEntry → Line → Bool
is_unknown es l = not (is_known es l)

-- the findings that a list leaves
abbrev pub unknown : List KnownEntry → List Finding → List Finding
unknown es fs = filter (λ f. is_unknown es f.line) fs
