-- What is said of the changes of a closed cycle.
use Rattle.std.specs.Prelude.{◌≡◌, ℕ, ◌+◌, ◌-◌, ◌^◌, ◌<◌, ◌||◌, nat_lt, ◌==◌, ◌&&◌, List, [], ◌++◌, Bool, true, false, Option, Some, None, length, codes, decimal, filter, map, string_bytes, if◌then◌else◌}
use Rattle.std.specs.List.{list_any}
use Rattle.ocfl_tree.specs.Place.{Text, Place}
use Rattle.ocfl_report.specs.{Line.{Line, line_of}, Text.{escape}}
use Rattle.ocfl_compare.specs.{Changes.{is_left}, Compared.{IsReport}, declared.change.ChangeAt.{ChangeAt}}
use Rattle.ocfl_accounts.specs.{Changes.{IsMissing, Says}, Cycle.{Cycle}, Kept.{Kept}}
use Rattle.ocfl_accounts.specs.declared.pair.Pair.{Pair}
use Rattle.ocfl_messages.specs.{Closing.{closing_text}, Finding.{Finding}, Gravest.{IsOf, by_weight}}
use Rattle.ocfl_messages.specs.Tally.{IsCount, IsTally, bytes_in, objects_in, right_in, wrong_in}
use Rattle.ocfl_messages.specs.declared.{closing.Closing.{Closing}, known.KnownEntry.{KnownEntry}, tally.Counts.{Counts}}
use Rattle.ocfl_words.specs.{Counted.{AreCounted, Counted, counted, gone_in, is_news, joined, shown_of}, Noted.{AreNoted, Noted, changes_of, noted}}
use Rattle.ocfl_words.specs.{News.{AreNews, again_in, findings_in, new_lines, news}, declared.findings.Findings.{Findings}}
use Rattle.ocfl_state.specs.Checkpoint.{Checkpoint}
use Rattle.ocfl_closed.specs.{Back.{AreBack}, Files.{Files, kept_of}}
use Rattle.ocfl_closed.specs.declared.{account.{Account.{Account}, CycleMade.{CycleMade}}, words.SaidWith.{SaidWith}}

-- ---- which changes

-- the changes since the report before, since the last whole one, and which objects of the list are
-- missing; and the lines of this report, once more where it is compared with the last whole one
pub record Parts : Type 0 where
  pub since : List Noted
  pub whole : List Noted
  pub missing : List Noted
  pub lines : List Line
  pub again : List Line

abbrev pub no_parts : Parts
no_parts = record { since = []; whole = []; missing = []; lines = []; again = [] }

-- all of them, in the order in which they are taken
abbrev pub all_of : Parts → List Noted
all_of p = p.since ++ (p.whole ++ p.missing)

-- what is counted and shown of them
abbrev pub counted_in : Parts → Counted
counted_in p = joined (joined (counted p.since) (counted p.missing)) (counted p.whole)

-- since the report before, outside of what either left out
abbrev pub AreSince : List KnownEntry → Kept → Cycle → Option Cycle → List Noted → List Line → Type 0
AreSince known k now None ns ls = (ns ≡ []) × IsReport (k.reports now.cycle) ls
AreSince known k now (Some before) ns ls =
    AreNoted known (now.left ++ before.left) (k.reports before.cycle) (k.reports now.cycle) (λ all lines. (ns ≡ all) × (ls ≡ lines))

-- since the last whole report, in the places that the report before alone left out
abbrev pub AreSinceWhole : List KnownEntry → Kept → Cycle → List Place → Option Cycle → List Noted → List Line → Type 0
AreSinceWhole known k now again None ns ls = (ns ≡ []) × (ls ≡ [])
AreSinceWhole known k now again (Some whole) ns ls =
    AreNoted known now.left (k.reports whole.cycle) (k.reports now.cycle) (λ all lines. (ns ≡ filter (λ n. is_left again n.at.place) all) × (ls ≡ lines))

abbrev pub no_finding : ChangeAt → Noted
no_finding c = noted c None false

-- the listed objects that are missing
pub record AreMissing (k : Kept) (now : Cycle) (ns : List Noted) : Type 0 where
  pub listed : IsMissing k now k.listed (changes_of ns)
  pub are : ns ≡ map no_finding (changes_of ns)

-- each is of the right comparison, and by its lines it is known which new findings are known
pub record AreOf (known : List KnownEntry) (k : Kept) (pair : Pair) (p : Parts) : Type 0 where
  pub since : AreSince known k pair.closed pair.before p.since p.lines
  pub whole : AreSinceWhole known k pair.closed pair.again.items pair.whole p.whole p.again
  pub missing : AreMissing k pair.closed p.missing

-- of a cycle whose report lost lines there are none
abbrev pub AreParts : List KnownEntry → Kept → Pair → Parts → Type 0
AreParts known k pair p = (pair.closed.lost ≡ true → p ≡ no_parts) × (pair.closed.lost ≡ false → AreOf known k pair p)

-- ---- which findings are new

-- those that are new and not known, and were not said before; how many of them were; and the lines of
-- the report
pub record News : Type 0 where
  pub findings : List Finding
  pub again : ℕ
  pub lines : List Line

-- of two comparisons
abbrev pub news_of : List Line → List Noted → List Line → List Noted → List Line → News
news_of before ps ls qs ms = record {
  findings = news before ps ls ++ news before qs ms;
  again = length (again_in before (new_lines ps)) + length (again_in before (new_lines qs));
  lines = ls;
}

abbrev pub news_in : List Line → Parts → News
news_in before p = news_of before p.since p.lines p.whole p.again

-- as they are kept: the most serious of them, and how many findings the report has
pub record AreIn (f : Findings) (n : News) : Type 0 where
  pub gravest : IsOf f.gravest n.findings
  pub again : IsCount f.said n.again
  pub count : IsCount f.count (findings_in n.lines)
  pub tally : IsTally f.tally n.lines

-- and as those of two comparisons are
pub record AreNewsOf (since whole : Findings) (n : News) : Type 0 where
  pub before : List Line
  pub new_since : List Noted
  pub lines : List Line
  pub new_again : List Noted
  pub again : List Line
  pub is : n ≡ news_of before new_since lines new_again again
  pub of_since : AreNews before new_since lines since
  pub of_whole : AreNews before new_again again whole

-- what a report with these lines counts
pub record AreCounts (c : Counts) (ls : List Line) : Type 0 where
  pub right : IsCount c.right (right_in ls)
  pub files : IsCount c.files (right_in ls + wrong_in ls)
  pub objects : IsCount c.objects (objects_in ls)
  pub bytes : IsCount c.bytes (bytes_in ls)

abbrev pub AreCountsOf : Option Counts → List Line → Type 0
AreCountsOf None ls = ⊥
AreCountsOf (Some c) ls = AreCounts c ls

-- ---- why something is not known

-- the number of a cycle; 0 of none
abbrev pub number_of : Option Cycle → ℕ
number_of None = 0
number_of (Some c) = c.cycle

-- a report is not there, with which a cycle is to be compared, in this state folder; then it is
-- compared with none, or with that of another cycle
abbrev pub gone_report_text : Text → ℕ → Text
gone_report_text state missing =
    codes "the report of cycle " ++ decimal missing ++ codes " is not in " ++ escape state ++ codes "/reports as it was closed: was it compressed, moved or removed?"

abbrev pub replaced_report_text : Text → ℕ → ℕ → Text
replaced_report_text state missing before =
    codes "the report of cycle " ++ decimal missing ++ codes " is not in " ++ escape state ++ codes "/reports as it was closed, so this is since cycle " ++ decimal before

abbrev pub missing_text : Text → ℕ → ℕ → Text
missing_text state missing before = if before == 0 then gone_report_text state missing else replaced_report_text state missing before

abbrev pub whole_missing_text : Text → ℕ → ℕ → Text
whole_missing_text state before missing =
    codes "cycle " ++ decimal before ++ codes " left places out, and the report of cycle " ++ decimal missing ++ codes " is not in " ++ escape state
    ++ codes "/reports as it was closed"

abbrev pub whole_text : Text → Pair → Option ℕ → Text
whole_text state pair None = []
whole_text state pair (Some missing) = whole_missing_text state (number_of pair.before) missing

-- each report before it lost lines
abbrev pub is_alone : Pair → Bool
is_alone pair = (number_of pair.before == 0) && nat_lt 1 pair.closed.cycle

abbrev pub why_from : Text → Pair → Option ℕ → Text
why_from state pair (Some missing) = missing_text state missing (number_of pair.before)
why_from state pair None = if is_alone pair then codes "lines of each report before it were lost" else whole_text state pair pair.whole_missing

-- why what is new or gone in a cycle is not known, or not all of it; nothing if it is
abbrev pub why_text : Text → Pair → Text
why_text state pair = if pair.closed.lost then codes "lines of this report were lost" else why_from state pair pair.missing

-- ---- what is said

-- what the words of all cycles are made with: the storage root and the state folder, as they are
-- called; whether only a part is read; which findings are known, and which were said before
pub record Means : Type 0 where
  pub root : Text
  pub state : Text
  pub is_part : Bool
  pub known : List KnownEntry
  pub said : List Line

abbrev pub means_of : SaidWith → Means
means_of with = record {
  root = with.root.now;
  state = with.state.now;
  is_part = with.is_part;
  known = with.known.now;
  said = map line_of with.said.now;
}

-- and those of one cycle: how many runs it had besides, and which objects are back in it, which
-- accounts say
pub record Beside : Type 0 where
  pub root : Text
  pub state : Text
  pub is_part : Bool
  pub known : List KnownEntry
  pub said : List Line
  pub runs : ℕ
  pub back : List Place

abbrev pub beside_by : Means → ℕ → List Place → Beside
beside_by m runs back = record {
  root = m.root;
  state = m.state;
  is_part = m.is_part;
  known = m.known;
  said = m.said;
  runs = runs;
  back = back;
}

abbrev pub beside_of : SaidWith → ℕ → List Place → Beside
beside_of with runs back = beside_by (means_of with) runs back

-- how many runs a cycle had, by the checkpoint that closed it
abbrev pub runs_by : Option Checkpoint → ℕ
runs_by None = 0
runs_by (Some c) = c.cursor.runs

abbrev pub runs_in : Files → Pair → ℕ
runs_in f pair = runs_by (f.checkpoint pair.closed.cycle)

-- how many lines its report had when it was closed, and what its runs had read of files: bytes, and
-- how many; 0 if that is not known
abbrev pub lines_by : Option Checkpoint → ℕ
lines_by None = 0
lines_by (Some c) = c.report.lines

abbrev pub bytes_read_by : Option Checkpoint → ℕ
bytes_read_by None = 0
bytes_read_by (Some c) = c.cursor.spent - c.cursor.files

abbrev pub files_read_by : Option Checkpoint → ℕ
files_read_by None = 0
files_read_by (Some c) = c.cursor.files

pub record IsMade (m : CycleMade) (c : Option Checkpoint) : Type 0 where
  pub lines : m.lines ≡ lines_by c
  pub runs : m.runs ≡ runs_by c
  pub bytes : IsCount m.bytes (bytes_read_by c)
  pub files : IsCount m.files (files_read_by c)

-- what a closing has of a cycle of which so much is counted and shown, and these findings are new
pub record IsClosing (b : Beside) (pair : Pair) (w : Counted) (n : News) (c : Closing) : Type 0 where
  pub root : c.root.now ≡ b.root
  pub cycle : c.cycle ≡ pair.closed.cycle
  pub before : c.before ≡ number_of pair.before
  pub why : c.uncompared.now ≡ why_text b.state pair
  pub uncounted : (pair.closed.lost || b.is_part) ≡ true → c.counts ≡ None
  pub counted : (pair.closed.lost || b.is_part) ≡ false → AreCountsOf c.counts n.lines
  pub runs : c.runs ≡ b.runs
  pub whole : c.whole ≡ pair.closed.whole
  pub appeared : IsOf c.appeared.now n.findings
  pub appeared_count : IsCount c.appeared_count w.appeared
  pub said : IsCount c.said n.again
  pub repaired : IsCount c.repaired_count w.repaired
  pub repaired_shown : map line_of c.repaired.now ≡ w.repaired_shown
  pub gone : c.gone.now ≡ shown_of w
  pub gone_count : IsCount c.gone_count (gone_in w)
  pub unlooked : IsCount c.unlooked w.unlooked
  pub rewritten : IsCount c.moved.rewritten w.rewritten
  pub went_back : IsCount c.moved.went_back w.went_back
  pub newer : IsCount c.moved.newer w.newer
  pub back : c.back.now ≡ b.back
  pub back_count : c.back_count ≡ length b.back

-- the text is that of the closing, with the most serious of these findings
abbrev pub IsTextOf : Closing → List Finding → Text → Type 0
IsTextOf c fs text = length (by_weight fs) < 2 ^ 64 → text ≡ closing_text c fs

-- the text is that of a closing of so much
abbrev pub HasText : Beside → Pair → Counted → News → Text → Type 0
HasText b pair w n text = (c : Closing) × (IsClosing b pair w n c × IsTextOf c n.findings text)

-- ---- what is kept for the log

-- of a cycle of which so much is counted, and these findings are new
pub record IsAccount (b : Beside) (f : Files) (pair : Pair) (w : Counted) (n : News) (a : Account) : Type 0 where
  pub changes : AreCounted a.changes w
  pub gone : a.gone.items ≡ shown_of w
  pub findings : AreIn a.findings n
  pub made : IsMade a.made (f.checkpoint pair.closed.cycle)
  pub why : string_bytes a.why ≡ why_text b.state pair

-- the numbers are those of the changes of these comparisons
pub record IsAccountOf (b : Beside) (f : Files) (pair : Pair) (a : Account) : Type 0 where
  pub parts : Parts
  pub are : AreParts b.known (kept_of f) pair parts
  pub account : IsAccount b f pair (counted_in parts) (news_in b.said parts) a

-- ---- what is found

-- the changes are those of these comparisons, and their text is said
pub record IsSaidOf (b : Beside) (k : Kept) (pair : Pair) (changes : List ChangeAt) (text : Text) (is_grave : Bool) : Type 0 where
  pub parts : Parts
  pub are : AreParts b.known k pair parts
  pub is : changes ≡ changes_of (all_of parts)
  pub said : HasText b pair (counted_in parts) (news_in b.said parts) text
  pub grave : is_grave ≡ list_any is_news (all_of parts)

abbrev pub said_beside : Beside → Says
said_beside b k pair changes text is_grave = IsSaidOf b k pair changes text is_grave

-- It is made with these means, and has the runs of the cycle by the checkpoint that closed it. What is
-- back is so by some lists of what is gone: which accounts were there then is not part of what is kept.
pub record IsSaidBy (m : Means) (checkpoint : ℕ → Option Checkpoint) (k : Kept) (pair : Pair) (changes : List ChangeAt) (text : Text) (is_grave : Bool) : Type 0 where
  pub lists : ℕ → Option Text
  pub back : List Place
  pub are_back : AreBack (record k { lists = lists }) pair back
  pub said : IsSaidOf (beside_by m (runs_by (checkpoint pair.closed.cycle)) back) k pair changes text is_grave

abbrev pub said_by : Means → (ℕ → Option Checkpoint) → Says
said_by m checkpoint k pair changes text is_grave = IsSaidBy m checkpoint k pair changes text is_grave
