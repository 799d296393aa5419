-- Which findings that are new are said of a report, and what its lines count.
use Rattle.std.specs.Prelude.{ℕ, ◌&&◌, List, [], Bool, true, not, None, length, filter, flat_map, if◌then◌else◌}
use Rattle.std.specs.{List.{list_any}, Option.{option_to_list}}
use Rattle.ocfl_tree.specs.Place.{place_eq, text_eq}
use Rattle.ocfl_report.specs.Line.{Line, is_finding_code}
use Rattle.ocfl_compare.specs.Changes.{is_code}
use Rattle.ocfl_messages.specs.{Finding.{Finding, placed_after}, Gathering.{said}, Gravest.{IsOf}, Tally.{IsCount, IsTally}}
use Rattle.ocfl_words.specs.{Counted.{is_new_finding}, Noted.{Noted}, declared.findings.Findings.{Findings}}

-- ---- lines

-- both say the same of the same place
abbrev pub is_same_line : Line → Line → Bool
is_same_line l m = place_eq l.place m.place && (is_code l.code m.code && text_eq l.detail m.detail)

abbrev pub is_among : List Line → Line → Bool
is_among ls l = list_any (is_same_line l) ls

abbrev pub findings_in : List Line → ℕ
findings_in ls = length (filter (λ l. is_finding_code l.code) ls)

-- ---- what is new

-- the lines of findings that are new and not known
abbrev pub new_line : Noted → List Line
new_line n = if is_new_finding n then option_to_list n.line else []

abbrev pub new_lines : List Noted → List Line
new_lines ns = flat_map new_line ns

-- those of them that were said before, and the others, which are to be said
abbrev pub again_in : List Line → List Line → List Line
again_in before ls = filter (is_among before) ls

abbrev pub unsaid_in : List Line → List Line → List Line
unsaid_in before ls = filter (λ l. not (is_among before l)) ls

-- the findings to be said of a report with these lines, in their order, each with its object and how
-- many files of that are right
abbrev pub news : List Line → List Noted → List Line → List Finding
news before ns now = said (is_among (unsaid_in before (new_lines ns))) (placed_after true None now)

-- ---- what was found

-- how many findings the report has, how many of the new ones were said before, the most serious of the
-- others, and what all lines count
pub record AreNews (before : List Line) (ns : List Noted) (now : List Line) (f : Findings) : Type 0 where
  pub gravest : IsOf f.gravest (news before ns now)
  pub again : IsCount f.said (length (again_in before (new_lines ns)))
  pub count : IsCount f.count (findings_in now)
  pub tally : IsTally f.tally now
