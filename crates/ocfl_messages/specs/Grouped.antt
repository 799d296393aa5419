-- Findings by the objects that they are in.
use Rattle.std.specs.Prelude.{ℕ, ◌-◌, ◌==◌, ◌&&◌, nat_lt, nat_le, List, [], ◌∷◌, ◌++◌, Bool, true, false, not, Option, Some, None, chars, drop, encode_utf8_all, length, map, take, codes, decimal, if◌then◌else◌}
use Rattle.std.specs.List.{filter, list_any}
use Rattle.unicode_normalization.specs.Forms.{nfc}
use Rattle.ocfl_tree.specs.{Path.{slashed}, Place.{Text, Place, place_eq, text_eq}}
use Rattle.ocfl_report.specs.{Line.{Line}, Text.{code_text}, declared.code.Code.{Code}}
use Rattle.ocfl_report.specs.declared.code.Code.TheVariants.{E023, E092, E093}
use Rattle.ocfl_codes.specs.Meaning.{first_step_at, meaning_at}
use Rattle.ocfl_messages.specs.{Command.{again_text, path_text}, Finding.{Finding, finding_of}, Known.{code_eq}, Many.{many_text}}
use Rattle.ocfl_messages.specs.{Wording.{at_space, coded_text, is_missing, path_part, said_text}, declared.grouped.Sorted.{Sorted as MadeSorted}}
use Rattle.ocfl_messages.specs.declared.finding.FileCounts.{FileCounts}

-- how many findings of an object are shown that have the same code
abbrev pub most_alike : ℕ
most_alike = 3

-- the same object, or none of both, if the codes are one
abbrev pub is_same : Option Place → Option Place → Bool → Bool
is_same (Some o) (Some p) codes_are_one = place_eq o p
is_same None None codes_are_one = codes_are_one
is_same _ _ codes_are_one = false

-- the findings are of one group
abbrev pub is_with : Finding → Finding → Bool
is_with f g = is_same f.object g.object (code_eq f.line.code g.line.code)

abbrev pub count_with : Finding → List Finding → ℕ
count_with f fs = length (filter (is_with f) fs)

-- the first of a list that is of the group of a finding
abbrev pub first_with : Finding → List Finding → Option Finding
first_with f [] = None
first_with f (g ∷ gs) = if is_with f g then Some g else first_with f gs

-- and of one code
abbrev pub is_like : Finding → Finding → Bool
is_like f g = is_with f g && code_eq f.line.code g.line.code

abbrev pub count_like : Finding → List Finding → ℕ
count_like f fs = length (filter (is_like f) fs)

-- a path below an object; empty at the object itself
abbrev pub inner_text : Place → Text
inner_text [] = []
inner_text (n ∷ p) = path_text (n ∷ p)

abbrev pub below_text : Option Place → Place → Text
below_text None p = path_text p
below_text (Some o) p = inner_text (drop (length o) p)

abbrev pub finding_text : Finding → Text
finding_text f = said_text (below_text f.object f.line.place) f.line

-- so many more of the code of a line
abbrev pub folded_text : ℕ → Line → Text
folded_text n l = codes "\tand " ++ decimal n ++ codes " more: " ++ meaning_at l.code l.place ++ codes " (" ++ code_text l.code ++ codes ")\n"

-- each of a list in turn, with those before it
abbrev pub each_text : (List Finding → Finding → Text) → List Finding → List Finding → Text
each_text one seen [] = []
each_text one seen (f ∷ fs) = one seen f ++ each_text one (seen ++ f ∷ []) fs

-- one of a list, before which n alike stand: the first are shown, and then the number of the rest
abbrev pub shown_text : ℕ → List Finding → Finding → Text
shown_text n fs f =
    if nat_lt n most_alike then finding_text f else if n == most_alike then folded_text (count_like f fs - most_alike) f.line else []

-- unless it is not of the group of another finding
abbrev pub member_text : Finding → List Finding → List Finding → Finding → Text
member_text first fs seen f = if is_with first f then shown_text (count_like f seen) fs f else []

-- whether these are all files of an object
abbrev pub extent_text : Bool → Text
extent_text is_whole = if is_whole then codes " right" else codes " right of those read tonight"

abbrev pub some_files_text : FileCounts → Text
some_files_text c = codes ", " ++ decimal c.right ++ codes " of " ++ many_text c.files (codes "file") (codes "files") ++ extent_text c.is_whole

-- how many files of an object are right; nothing if none was counted
abbrev pub files_text : Option FileCounts → Text
files_text None = []
files_text (Some c) = if c.files == 0 then [] else some_files_text c

abbrev pub group_head : Option Place → Option FileCounts → Code → Text
group_head (Some o) files c = codes "Object " ++ path_text o ++ files_text files ++ codes ":\n"
group_head None files c = codes "Elsewhere, " ++ code_text c ++ codes ":\n"

-- ---- a file under another spelling of its name

-- a file of an inventory is missing
abbrev pub is_lost : Finding → Bool
is_lost f = code_eq f.line.code E092 && is_missing (at_space f.line.detail)

-- a file is in no inventory
abbrev pub is_stray : Finding → Bool
is_stray f = code_eq f.line.code E023

-- the two sides of a pair: what is missing, and what is there
abbrev pub is_side : Bool → Finding → Bool
is_side lost f = if lost then is_lost f else is_stray f

-- a path in normal form C of Unicode
abbrev pub form_of : Place → Text
form_of p = encode_utf8_all (nfc (chars (slashed p)))

-- of one group, and of one path but for its spelling
abbrev pub is_spelt : Finding → Finding → Bool
is_spelt f g = is_with f g && text_eq (form_of f.line.place) (form_of g.line.place)

abbrev pub is_counted_with : Bool → Finding → Finding → Bool
is_counted_with lost f g = is_side lost g && is_spelt f g

abbrev pub count_side : Bool → Finding → List Finding → ℕ
count_side lost f fs = length (filter (is_counted_with lost f) fs)

-- one of a list, behind those that were seen of it: of each path the n-th file that is missing and
-- the n-th that is there are a pair
abbrev pub is_paired : Bool → List Finding → List Finding → Finding → Bool
is_paired lost fs seen f = is_side lost f && nat_lt (count_side lost f seen) (count_side (not lost) f fs)

abbrev pub is_alone : List Finding → List Finding → Finding → Bool
is_alone fs seen f = not (is_paired true fs seen f) && not (is_paired false fs seen f)

abbrev pub one_if : Bool → Finding → List Finding
one_if is f = if is then f ∷ [] else []

-- those of a list of which this holds, with those before each
abbrev pub picked : (List Finding → Finding → Bool) → List Finding → List Finding → List Finding
picked is seen [] = []
picked is seen (f ∷ fs) = one_if (is seen f) f ++ picked is (seen ++ f ∷ []) fs

-- the findings that are in no pair
abbrev pub alone_of : List Finding → List Finding
alone_of fs = picked (is_alone fs) [] fs

-- of each pair the file that is missing
abbrev pub respelt_of : List Finding → List Finding
respelt_of fs = picked (is_paired true fs) [] fs

-- a file of the fixity block is missing
abbrev pub is_missed : Finding → Bool
is_missed f = code_eq f.line.code E093 && is_missing (at_space f.line.detail)

abbrev pub is_at : Finding → Finding → Bool
is_at f g = is_with f g && place_eq f.line.place g.line.place

-- and is the one that is missing of one of these pairs
abbrev pub is_beside : List Finding → Finding → Bool
is_beside respelt f = is_missed f && list_any (is_at f) respelt

abbrev pub without_beside : List Finding → List Finding → List Finding
without_beside respelt fs = filter (λ f. not (is_beside respelt f)) fs

-- a list without what the fixity block says of the missing files of its pairs
abbrev pub kept_of : List Finding → List Finding
kept_of fs = without_beside (respelt_of fs) fs

-- a list without these, and what is shown of its findings one by one
pub record Sorted : Type 0 where
  pub all : List Finding
  pub alone : List Finding
  pub respelt : List Finding

abbrev pub sorted : List Finding → Sorted
sorted fs = record { all = kept_of fs; alone = alone_of (kept_of fs); respelt = respelt_of fs }

abbrev pub sorted_of : MadeSorted → Sorted
sorted_of s = record { all = map finding_of s.all.now; alone = map finding_of s.alone.now; respelt = map finding_of s.respelt.now }

abbrev pub respelt_words : Text
respelt_words = codes "here under another spelling of its name (E092, E023)"

-- a file under another spelling of its name
abbrev pub respelt_said : Finding → Text
respelt_said f = path_part (below_text f.object f.line.place) ++ respelt_words

abbrev pub respelt_text : Finding → Text
respelt_text f = codes "\t" ++ respelt_said f ++ codes "\n"

-- so many more of them
abbrev pub more_respelt_text : ℕ → Text
more_respelt_text n = codes "\tand " ++ decimal n ++ codes " more: " ++ respelt_words ++ codes "\n"

-- one of a list, before which n of its group stand: the first are shown, and then the number of the rest
abbrev pub some_respelt_text : ℕ → List Finding → Finding → Text
some_respelt_text n fs f = if nat_lt n most_alike then respelt_text f else if n == most_alike then more_respelt_text (count_with f fs - most_alike) else []

-- unless it is not of the group of another finding
abbrev pub respelt_member_text : Finding → List Finding → List Finding → Finding → Text
respelt_member_text first fs seen f = if is_with first f then some_respelt_text (count_with f seen) fs f else []

-- ---- groups

-- what to do first about a finding
abbrev pub step_of : Finding → Text
step_of f = first_step_at f.line.code f.line.place

-- it is the same for both
abbrev pub is_same_step : Finding → Finding → Bool
is_same_step f g = text_eq (step_of f) (step_of g)

-- the first finding of a group that is in no pair, if there is one, says the same of it as another
abbrev pub is_same_step_as : Finding → Option Finding → Bool
is_same_step_as g None = false
is_same_step_as g (Some h) = is_same_step g h

-- the group of a finding says what another one says to do first
abbrev pub says_step : List Finding → Finding → Finding → Bool
says_step alone g f = is_same_step_as g (first_with f alone)

-- what to do first about a finding, unless one of the groups of these has said so
abbrev pub one_step_text : List Finding → List Finding → Finding → Text
one_step_text alone before g = if list_any (says_step alone g) before then [] else codes "\tTo do: " ++ step_of g ++ codes "\n"

-- about the first finding of a group that is in no pair
abbrev pub step_text : List Finding → List Finding → Option Finding → Text
step_text alone before None = []
step_text alone before (Some g) = one_step_text alone before g

-- the group of a finding, behind groups of these: a line, its findings, those in pairs last, what to
-- do first, and how to look at it again
abbrev pub group_text : Text → Sorted → List Finding → Finding → Text
group_text root s before f =
    group_head f.object f.files f.line.code ++ each_text (member_text f s.alone) [] s.alone ++ each_text (respelt_member_text f s.respelt) [] s.respelt
    ++ step_text s.alone before (first_with f s.alone) ++ again_text root f.line.place

abbrev pub others_text : ℕ → Text
others_text n = if n == 0 then [] else codes ", and " ++ decimal n ++ codes " more"

abbrev pub brief_head : Option Place → Text
brief_head (Some o) = codes "Object " ++ path_text o ++ codes ": "
brief_head None = codes "Elsewhere: "

-- a finding of n of a group
abbrev pub brief_finding : ℕ → Finding → Text
brief_finding n g = path_part (below_text g.object g.line.place) ++ coded_text g.line ++ others_text (n - 1)

-- a file under another spelling, which is two of n
abbrev pub brief_respelt : ℕ → Finding → Text
brief_respelt n f = respelt_said f ++ others_text (n - 2)

-- the first finding that is in no pair, or without one the file of the first pair
abbrev pub brief_body : ℕ → Finding → Option Finding → Text
brief_body n f None = brief_respelt n f
brief_body n f (Some g) = brief_finding n g

-- the same group in one line: that finding, and how many more it has
abbrev pub brief_text : Sorted → Finding → Text
brief_text s f = brief_head f.object ++ brief_body (count_with f s.all) f (first_with f s.alone) ++ codes "\n"

-- ---- in so many lines

-- how many lines a text has
abbrev pub line_count : Text → ℕ
line_count t = length (filter (λ b. b == 10) t)

-- whole, if that leaves a line for each of the groups behind it, and else in one line
abbrev pub fitting_text : ℕ → ℕ → Text → Text → Text
fitting_text room behind whole brief = if nat_le (line_count whole) (room - behind) then whole else brief

abbrev pub shown_group : Text → Sorted → ℕ → ℕ → List Finding → Finding → Text
shown_group root s room behind before f = fitting_text room behind (group_text root s before f) (brief_text s f)

-- the groups of these in so many lines
abbrev pub fit_text : Text → Sorted → ℕ → List Finding → List Finding → Text
fit_text root s room before [] = []
fit_text root s room before (f ∷ rest) = shown_group root s room (length rest) before f
    ++ fit_text root s (room - line_count (shown_group root s room (length rest) before f)) (before ++ f ∷ []) rest

-- the first findings of groups, with one more
abbrev pub lead_with : List Finding → Finding → List Finding
lead_with leads f = if list_any (is_with f) leads then leads else leads ++ f ∷ []

abbrev pub leads_after : List Finding → List Finding → List Finding
leads_after leads [] = leads
leads_after leads (f ∷ fs) = leads_after (lead_with leads f) fs

-- the first finding of each group of a list, in their order
abbrev pub leads_of : List Finding → List Finding
leads_of fs = leads_after [] fs

-- those of the groups that are shown in so many lines
abbrev pub shown_leads : ℕ → List Finding → List Finding
shown_leads room fs = take room (leads_of fs)

-- the findings of these groups
abbrev pub led_by : List Finding → List Finding → List Finding
led_by leads fs = filter (λ f. list_any (is_with f) leads) fs

-- the findings of a list, each object once, in the order of their first findings
abbrev pub groups_text : Text → ℕ → List Finding → Text
groups_text root room fs = fit_text root (sorted fs) room [] (shown_leads room fs)
