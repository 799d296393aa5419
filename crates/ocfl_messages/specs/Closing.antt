-- What is said of a cycle that was closed.
use Rattle.std.specs.Prelude.{ℕ, ◌+◌, ◌-◌, ◌^◌, ◌<◌, ◌≤◌, ◌==◌, ◌&&◌, nat_lt, min, All, IfSome, List, [], ◌∷◌, ◌++◌, Bool, Option, Some, None, length, map, take, flat_map, codes, decimal, if◌then◌else◌}
use Rattle.std.specs.Str.{IsUtf8}
use Rattle.ocfl_tree.specs.{Name.{IsPlace}, Place.{Text, Place}}
use Rattle.ocfl_report.specs.{Line.{Line, line_of}, Text.{IsLine, escape}}
use Rattle.ocfl_messages.specs.{Command.{over_text, path_text}, Finding.{Finding}, Gravest.{gravest}}
use Rattle.ocfl_messages.specs.{Many.{are_text, many_text, size_text}, Night.{more_text, some_text}, Wording.{said_text}}
use Rattle.ocfl_messages.specs.declared.tally.Counts.{Counts}
use Rattle.ocfl_messages.specs.declared.closing.GoneKind.{GoneKind}
use Rattle.ocfl_messages.specs.declared.closing.GoneKind.TheVariants.{Object, Undeclared, File, Expected}
use Rattle.ocfl_messages.specs.{declared.closing.Gone.{Gone}, declared.closing.Moved.{Moved}, declared.closing.Closing.{Closing}, declared.joined.Joined.{Joined}}

abbrev pub not_whole_text : ℕ → Text → Text
not_whole_text cycle report = codes "Cycle " ++ decimal cycle ++ codes " ended, but its report is incomplete: " ++ escape report ++ codes "\n"

-- ---- the word at the end of a cycle

-- what the report counts
abbrev pub counts_text : Counts → Text
counts_text k = decimal k.right ++ codes " of " ++ many_text k.files (codes "file") (codes "files") ++ codes " right, "
    ++ many_text k.objects (codes "object") (codes "objects") ++ codes ", " ++ size_text k.bytes

abbrev pub some_run_count_text : ℕ → Text
some_run_count_text n = codes ", " ++ many_text n (codes "run") (codes "runs")

-- how many runs a cycle had; 0 is not known
abbrev pub run_count_text : ℕ → Text
run_count_text n = if n == 0 then [] else some_run_count_text n

abbrev pub some_new_text : ℕ → Text
some_new_text n = if n == 0 then codes "Nothing new" else many_text n (codes "new finding") (codes "new findings")

abbrev pub some_gone_text : ℕ → Text
some_gone_text n = if n == 0 then codes "nothing gone" else many_text n (codes "object or file gone") (codes "objects and files gone")

abbrev pub since_text : ℕ → ℕ → ℕ → Text
since_text appeared gone before = some_new_text appeared ++ codes ", " ++ some_gone_text gone ++ codes " since cycle " ++ decimal before

-- what was not compared, with or without a reason
abbrev pub alone_text : Text → Text
alone_text [] = codes "Nothing to compare with"
alone_text (b ∷ why) = codes "Not compared"

-- what changed since the cycle that it was compared with; 0 is none
abbrev pub changed_text : Closing → Text
changed_text c = if c.before == 0 then alone_text c.uncompared.now else since_text c.appeared_count c.gone_count c.before

abbrev pub summary_text : Closing → Counts → Text
summary_text c k = counts_text k ++ run_count_text c.runs ++ codes ".\n" ++ changed_text c ++ codes ".\n"

-- of a cycle with this number, whole or not: an incomplete report is named, and what it counts is
-- in it
abbrev pub lead_of : ℕ → Bool → Text → Text
lead_of cycle whole report = if whole then codes "Cycle " ++ decimal cycle ++ codes " ended: " else not_whole_text cycle report ++ codes "In it: "

abbrev pub lead_text : Closing → Text
lead_text c = lead_of c.cycle c.whole c.report.now

-- the word at the end of a cycle; if nothing is counted, only that its report is incomplete
abbrev pub counted_text : Closing → Option Counts → Text
counted_text c None = if c.whole then [] else not_whole_text c.cycle c.report.now
counted_text c (Some k) = lead_text c ++ summary_text c k

-- the same of a joined report, without what changed: that of each part was said when it was closed
abbrev pub joined_text : Joined → Text
joined_text j = lead_of j.cycle j.whole j.report.now ++ counts_text j.counts ++ run_count_text j.runs ++ codes ".\n"

abbrev pub ended_text : Closing → Text
ended_text c = counted_text c c.counts

-- ---- what changed

abbrev pub not_known_text : Text → Text
not_known_text why = codes "What is new or gone since the last report is not known: " ++ escape why ++ codes "\n"

-- why nothing was compared; nothing if it was
abbrev pub uncompared_text : Text → Text
uncompared_text [] = []
uncompared_text (b ∷ why) = not_known_text (b ∷ why)

-- ---- in how many lines

-- how many lines all of it has at most, without the line on root inventories
abbrev pub most_closing_lines : ℕ
most_closing_lines = 13

-- how many of them are of sections: those of the word at the end, of why nothing was compared and of
-- what is not looked at are not
abbrev pub word_lines : Bool → ℕ
word_lines whole = if whole then 2 else 3

abbrev pub why_lines : Text → ℕ
why_lines [] = 0
why_lines (b ∷ why) = 1

abbrev pub one_unless : Bool → ℕ
one_unless none = if none then 0 else 1

abbrev pub room_of_sections : Closing → ℕ
room_of_sections c = most_closing_lines - word_lines c.whole - why_lines c.uncompared.now - one_unless (c.unlooked == 0)

-- a section behind others has two lines at least
abbrev pub two_unless : Bool → ℕ
two_unless none = if none then 0 else 2

-- how many lines a section of so many has in so much room
abbrev pub section_lines : ℕ → ℕ → ℕ
section_lines room count = if count == 0 then 0 else min (count + 1) room

-- the line before what is new says all if each of that was said
abbrev pub new_lines : ℕ → ℕ → ℕ → ℕ
new_lines room count unsaid = if count == 0 then 0 else if unsaid == 0 then 1 else room

abbrev pub gone_room : Closing → ℕ
gone_room c = room_of_sections c - two_unless (c.appeared_count == 0) - two_unless (c.repaired_count == 0) - two_unless (c.back_count == 0)

abbrev pub behind_gone : Closing → ℕ
behind_gone c = room_of_sections c - section_lines (gone_room c) c.gone_count

abbrev pub new_room : Closing → ℕ
new_room c = behind_gone c - two_unless (c.repaired_count == 0) - two_unless (c.back_count == 0)

abbrev pub behind_new : Closing → ℕ
behind_new c = behind_gone c - new_lines (new_room c) c.appeared_count (c.appeared_count - c.said)

abbrev pub repaired_room : Closing → ℕ
repaired_room c = behind_new c - two_unless (c.back_count == 0)

abbrev pub back_room : Closing → ℕ
back_room c = behind_new c - section_lines (repaired_room c) c.repaired_count

-- how many are shown of so many: all if each has a line behind the first one, and else there is a
-- line for the number of the rest
abbrev pub most_of : ℕ → ℕ → ℕ
most_of room count = if nat_lt count room then room - 1 else room - 2

-- how many are not shown of a list of this length
abbrev pub not_shown : ℕ → ℕ → ℕ → ℕ
not_shown room count listed = count - min listed (most_of room count)

-- a line, what is shown, how many more there are, and the command that lists them; nothing of none
abbrev pub section_text : ℕ → Text → Text → Text → Text → ℕ → Text
section_text count head shown command file left = if count == 0 then [] else head ++ shown ++ more_text command file left

abbrev pub kind_text : GoneKind → Text
kind_text Object = codes "object"
kind_text Undeclared = codes "undeclared"
kind_text File = codes "file"
kind_text Expected = codes "expected"

abbrev pub gone_line : Gone → Text
gone_line g = kind_text g.kind ++ 9 ∷ path_text g.place ++ 10 ∷ []

abbrev pub gone_lines : List Gone → Text
gone_lines gs = flat_map gone_line gs

abbrev pub back_line : Place → Text
back_line p = codes "object\t" ++ path_text p ++ 10 ∷ []

abbrev pub back_lines : List Place → Text
back_lines ps = flat_map back_line ps

abbrev pub some_above_text : ℕ → Text
some_above_text said = codes ", " ++ decimal said ++ codes " of them above"

-- how many of the new findings the message of this night has already
abbrev pub above_text : ℕ → Text
above_text said = if said == 0 then [] else some_above_text said

-- without the end of the line
abbrev pub new_head : Closing → Text
new_head c = many_text c.appeared_count (codes "finding") (codes "findings") ++ codes " of cycle " ++ decimal c.cycle ++ are_text c.appeared_count
    ++ codes " new since cycle " ++ decimal c.before ++ above_text c.said

-- the end of that line; n findings that were not said, of which these are kept, in so many lines,
-- and how many more there are in the report
abbrev pub unsaid_text : ℕ → ℕ → List Finding → Text → Text → Text
unsaid_text room n fs root report = if n == 0 then codes ".\n" else codes ":\n" ++ some_text root (room - 2) report n fs

abbrev pub repaired_head : ℕ → ℕ → ℕ → Text
repaired_head count cycle before = many_text count (codes "finding") (codes "findings") ++ codes " of cycle " ++ decimal before ++ are_text count
    ++ codes " repaired in cycle " ++ decimal cycle ++ codes ":\n"

-- a finding that is repaired, as it was
abbrev pub repaired_line : Line → Text
repaired_line l = said_text (path_text l.place) l

abbrev pub repaired_lines : List Line → Text
repaired_lines ls = flat_map repaired_line ls

abbrev pub gone_head : ℕ → ℕ → Text
gone_head count cycle = many_text count (codes "object or file") (codes "objects and files") ++ are_text count ++ codes " gone or missing in cycle "
    ++ decimal cycle ++ codes ":\n"

abbrev pub back_head : ℕ → ℕ → Text
back_head count cycle = many_text count (codes "object") (codes "objects") ++ are_text count ++ codes " back in cycle " ++ decimal cycle ++ codes ":\n"

abbrev pub some_unlooked_text : ℕ → Text
some_unlooked_text count =
    many_text count (codes "file") (codes "files") ++ codes " of objects that are gone, or whose inventory cannot be used," ++ are_text count
    ++ codes " not looked at any more.\n"

abbrev pub unlooked_text : ℕ → Text
unlooked_text count = if count == 0 then [] else some_unlooked_text count

-- the commands that show what changed between the reports, and what is gone, with the objects whose root
-- inventories are others
abbrev pub changed_command : Closing → Text
changed_command c = over_text (codes "ocfl-scrub-reports changed") c.earlier.now

abbrev pub list_command : Text
list_command = codes "cat"

-- no root inventory is another one
abbrev pub is_unmoved : Moved → Bool
is_unmoved m = (m.rewritten == 0) && (m.went_back == 0) && (m.newer == 0)

abbrev pub some_moved_text : Moved → Text → Text
some_moved_text m list =
    codes "Root inventories: " ++ decimal m.rewritten ++ codes " changed without a new version, " ++ decimal m.went_back ++ codes " went back, " ++ decimal m.newer
    ++ codes " of a new version: " ++ over_text list_command list ++ codes "\n"

-- how many root inventories are others, and the command that lists their objects
abbrev pub moved_text : Moved → Text → Text
moved_text m list = if is_unmoved m then [] else some_moved_text m list

-- of a cycle whose new findings that were not said are these
abbrev pub new_text : Closing → List Finding → Text
new_text c fs = if c.appeared_count == 0 then [] else new_head c ++ unsaid_text (new_room c) (c.appeared_count - c.said) (gravest fs) c.root.now c.report.now

abbrev pub repaired_text : Closing → Text
repaired_text c = section_text c.repaired_count (repaired_head c.repaired_count c.cycle c.before)
    (repaired_lines (map line_of (take (most_of (repaired_room c) c.repaired_count) c.repaired.now)))
    (changed_command c) c.report.now (not_shown (repaired_room c) c.repaired_count (length c.repaired.now))

abbrev pub back_text : Closing → Text
back_text c = section_text c.back_count (back_head c.back_count c.cycle) (back_lines (take (most_of (back_room c) c.back_count) c.back.now))
    (changed_command c) c.report.now (not_shown (back_room c) c.back_count (length c.back.now))

abbrev pub gone_text : Closing → Text
gone_text c = section_text c.gone_count (gone_head c.gone_count c.cycle) (gone_lines (take (most_of (gone_room c) c.gone_count) c.gone.now))
    list_command c.list.now (not_shown (gone_room c) c.gone_count (length c.gone.now))

-- lost objects come first
abbrev pub closing_text : Closing → List Finding → Text
closing_text c fs = ended_text c ++ uncompared_text c.uncompared.now ++ gone_text c ++ unlooked_text c.unlooked ++ moved_text c.moved c.list.now
    ++ new_text c fs ++ repaired_text c
    ++ back_text c

-- ---- what closings that are made have

abbrev pub IsU64 : ℕ → Type 0
IsU64 n = n < 2 ^ 64

pub record AreCounts (k : Counts) : Type 0 where
  pub right : IsU64 k.right
  pub files : IsU64 k.files
  pub objects : IsU64 k.objects
  pub bytes : IsU64 k.bytes

-- its paths are text, its numbers have 64 bits, and its lists are of what a report can have, and of no
-- more than is counted
pub record IsMade (c : Closing) : Type 0 where
  pub report : IsUtf8 c.report.now
  pub earlier : IsUtf8 c.earlier.now
  pub list : IsUtf8 c.list.now
  pub why : IsUtf8 c.uncompared.now
  pub cycle : IsU64 c.cycle
  pub before : IsU64 c.before
  pub counts : IfSome c.counts AreCounts
  pub runs : IsU64 c.runs
  pub appeared : IsU64 c.appeared_count
  pub said : IsU64 c.said
  pub unlooked : IsU64 c.unlooked
  pub rewritten : IsU64 c.moved.rewritten
  pub went_back : IsU64 c.moved.went_back
  pub newer : IsU64 c.moved.newer
  pub gone_count : IsU64 c.gone_count
  pub gone : All (λ g. IsPlace g.place) c.gone.now
  pub all_gone : length c.gone.now ≤ c.gone_count
  pub repaired_count : IsU64 c.repaired_count
  pub repaired : All (λ l. IsLine (line_of l)) c.repaired.now
  pub all_repaired : length c.repaired.now ≤ c.repaired_count
  pub back_count : IsU64 c.back_count
  pub back : All IsPlace c.back.now
  pub all_back : length c.back.now ≤ c.back_count
