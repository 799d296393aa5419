-- What changed between the report before and this one, place by place.
use Rattle.std.specs.Prelude.{◌&&◌, ◌||◌, List, [], ◌∷◌, ◌++◌, Bool, not, if◌then◌else◌, map, filter, flat_map}
use Rattle.std.specs.List.{list_any}
use Rattle.ocfl_tree.specs.Place.{Place, place_cmp, place_eq, text_eq, begins}
use Rattle.ocfl_tree.specs.Ascending.{ascending}
use Rattle.ocfl_report.specs.{Line.{Line, is_finding_code}, Text.{code_text}}
use Rattle.ocfl_report.specs.declared.code.Code.{Code}
use Rattle.ocfl_compare.specs.declared.change.Change.{Change}
use Rattle.ocfl_compare.specs.declared.change.Change.TheVariants.{Gone, Undeclared, FileGone, Unlooked, Found, Repaired, Missing}
use Rattle.ocfl_compare.specs.declared.change.ChangeAt.{ChangeAt}
use Rattle.ocfl_compare.specs.declared.question.Question.{Question}
use Rattle.ocfl_compare.specs.declared.question.Question.TheVariants.{Changed, Expected}
use Rattle.ocfl_compare.specs.Versions.{inventory_changes, note_in}
use Rattle.ocfl_codes.specs.Kinds.{is_empty, tells_object, tells_file, hides}

-- ---- the codes of findings

abbrev pub is_code : Code → Code → Bool
is_code c d = text_eq (code_text c) (code_text d)

abbrev pub has_code : List Code → Code → Bool
has_code cs c = list_any (is_code c) cs

-- one more code, if it is that of a finding and not among them
abbrev pub with_code : List Code → Code → List Code
with_code cs c = if is_finding_code c && not (has_code cs c) then cs ++ c ∷ [] else cs

abbrev pub codes_from : List Code → List Line → List Code
codes_from cs [] = cs
codes_from cs (l ∷ ls) = codes_from (with_code cs l.code) ls

-- those of the findings among some lines, each once, in the order in which they come first
abbrev pub finding_codes : List Line → List Code
finding_codes ls = codes_from [] ls

-- those that are not among the ones before
abbrev pub new_codes : List Code → List Code → List Code
new_codes before now = filter (λ c. not (has_code before c)) now

-- ---- what a report says of the places around

-- the second place is below the first
abbrev pub is_below : Place → Place → Bool
is_below p q = begins p q && not (place_eq p q)

abbrev pub has_below : Place → List Line → Bool
has_below p ls = list_any (λ l. is_below p l.place) ls

-- the head of an object stops, so that nothing below it is looked at
abbrev pub stops : Line → Bool
stops l = tells_object l && hides l

-- the files of an object that has these lines in both reports are not looked at: there is no line of
-- the object any more, or its head stops
abbrev pub is_shut : List Line → List Line → Bool
is_shut before now = list_any stops now || (list_any tells_object before && not (list_any tells_object now))

abbrev pub lines_at : Place → List Line → List Line
lines_at p ls = filter (λ l. place_eq p l.place) ls

-- all places with a line in one of the reports, in order
abbrev pub places_of : List Line → List Line → List Place
places_of before now = ascending place_cmp (map (λ l. l.place) (before ++ now))

-- the place is below an object whose files are not looked at
abbrev pub is_in_shut : List Line → List Line → Place → Bool
is_in_shut before now p = list_any (λ q. is_below q p && is_shut (lines_at q before) (lines_at q now)) (places_of before now)

-- ---- changes at one place

abbrev pub when : Bool → Change → List Change
when b c = if b then c ∷ [] else []

-- an object of which there is no line any more: where this report has lines below it, it is no longer
-- declared
abbrev pub gone_object : Bool → Change
gone_object has_lines = if has_lines then Undeclared else Gone

-- a content file of which there is no line any more: where its object is shut, nobody looked for it
abbrev pub gone_file : Bool → Change
gone_file shut = if shut then Unlooked else FileGone

-- the codes that were found before and are found no more, of a place that was looked at: it has
-- lines, and none that may hide a finding
abbrev pub repaired_codes : List Line → List Line → List Code
repaired_codes before now = if is_empty now || list_any hides now then [] else new_codes (finding_codes now) (finding_codes before)

-- of a place with these lines in the report before, and these in this one; the place is below an
-- object that is shut, and this report has lines below the place. Where an object is gone there was a
-- line of it and is none; where a file is gone there is no line at all
abbrev pub changes_at : Bool → Bool → List Line → List Line → List Change
changes_at shut has_lines before now =
    when (not (list_any tells_object now) && list_any tells_object before) (gone_object has_lines)
    ++ (when (is_empty now && list_any tells_file before) (gone_file shut)
    ++ (map Found (new_codes (finding_codes before) (finding_codes now))
    ++ (map Repaired (repaired_codes before now)
    ++ inventory_changes (note_in before) (note_in now))))

-- of an object with this line in a list, and these lines in the report
abbrev pub missing_at : List Line → List Line → List Change
missing_at listed now = when (not (list_any tells_object now) && list_any tells_object listed) Missing

abbrev pub answer_at : Question → Bool → Bool → List Line → List Line → List Change
answer_at Changed shut has_lines before now = changes_at shut has_lines before now
answer_at Expected shut has_lines before now = missing_at before now

-- ---- of whole reports

-- the place is one of those that were left out, or is below one
abbrev pub is_left : List Place → Place → Bool
is_left left p = list_any (λ d. begins d p) left

-- nothing is said of what was left out
abbrev pub said_at : Question → List Place → List Line → List Line → Place → List Change
said_at asked left before now p = if is_left left p then [] else answer_at asked (is_in_shut before now p) (has_below p now) (lines_at p before) (lines_at p now)

abbrev pub change_at : Place → Change → ChangeAt
change_at p c = record { place = p; change = c }

abbrev pub placed : Place → List Change → List ChangeAt
placed p cs = map (change_at p) cs

-- the answers at all places, in the order of places
abbrev pub answers : Question → List Place → List Line → List Line → List ChangeAt
answers asked left before now = flat_map (λ p. placed p (said_at asked left before now p)) (places_of before now)

-- what changed
abbrev pub comparison : List Place → List Line → List Line → List ChangeAt
comparison left before now = answers Changed left before now
