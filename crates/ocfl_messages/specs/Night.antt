-- What is said of the findings of a night.
use Rattle.std.specs.Prelude.{ℕ, ◌-◌, ◌^◌, ◌<◌, ◌==◌, IfSome, nat_lt, List, [], ◌++◌, length, Option, Some, None, codes, decimal, if◌then◌else◌}
use Rattle.std.specs.Str.{IsUtf8}
use Rattle.ocfl_tree.specs.Place.{Text}
use Rattle.ocfl_report.specs.Text.{escape}
use Rattle.ocfl_messages.specs.{Command.{over_text}, Finding.{Finding}, Gravest.{by_weight, gravest}}
use Rattle.ocfl_messages.specs.Grouped.{groups_text, leads_of, led_by, shown_leads}
use Rattle.ocfl_messages.specs.{Many.{many_text}, declared.night.Night.{Night}}

abbrev pub part_text : ℕ → Text → Text
part_text part root = codes "part " ++ decimal part ++ codes " of " ++ escape root

-- a storage root by its path, or a part of it
abbrev pub whose_text : Option ℕ → Text → Text
whose_text None root = escape root
whose_text (Some part) root = part_text part root

abbrev pub between_text : ℕ → ℕ → Text
between_text first last = codes "runs " ++ decimal first ++ codes " to " ++ decimal last

-- the runs of a night, by their numbers
abbrev pub runs_text : ℕ → ℕ → Text
runs_text first last = if first == last then codes "run " ++ decimal first else between_text first last

-- the line before the findings
abbrev pub tonight_text : Night → ℕ → Text
tonight_text n count = many_text count (codes "finding") (codes "findings") ++ codes " tonight in " ++ whose_text n.part n.root.now ++ codes ", cycle "
    ++ decimal n.cycle ++ codes ", " ++ runs_text n.first n.last ++ codes ":\n"

abbrev pub some_more_text : Text → Text → ℕ → Text
some_more_text command file left = decimal left ++ codes " not shown here: " ++ over_text command file ++ codes "\n"

-- how many are not shown, and the command that lists all of them
abbrev pub more_text : Text → Text → ℕ → Text
more_text command file left = if left == 0 then [] else some_more_text command file left

-- which shows the findings of a report
abbrev pub findings_command : Text
findings_command = codes "ocfl-scrub-reports findings"

-- n findings, of which these are kept, in so many lines, and how many more there are in a report
abbrev pub some_text : Text → ℕ → Text → ℕ → List Finding → Text
some_text root room report n fs = groups_text root room fs ++ more_text findings_command report (n - length (led_by (shown_leads room fs) fs))

-- of several groups not each says what to do
abbrev pub hint_text : List Finding → Text
hint_text fs = if nat_lt 1 (length (leads_of fs)) then codes "What to do first about a code: ocfl-scrub codes\n" else []

-- how many lines a message has at most, and how many of them are of groups
abbrev pub most_night_lines : ℕ
most_night_lines = 27

abbrev pub room_of_groups : ℕ
room_of_groups = 24

-- n findings, of which these are kept
abbrev pub findings_text : Night → ℕ → List Finding → Text
findings_text n count fs = tonight_text n count ++ some_text n.root.now room_of_groups n.report.now count fs ++ hint_text fs

-- the message of a night with these findings among its lines, and nothing if none is one
abbrev pub night_text : Night → List Finding → Text
night_text n fs = if length (by_weight fs) == 0 then [] else findings_text n (length (by_weight fs)) (gravest fs)

-- the findings of the groups that it shows
abbrev pub shown_findings : List Finding → List Finding
shown_findings fs = led_by (shown_leads room_of_groups (gravest fs)) (gravest fs)

-- its paths are text, and its numbers have 64 bits
pub record IsNamed (n : Night) : Type 0 where
  pub root : IsUtf8 n.root.now
  pub report : IsUtf8 n.report.now
  pub part : IfSome n.part (λ k. k < 2 ^ 64)
  pub cycle : n.cycle < 2 ^ 64
  pub first : n.first < 2 ^ 64
  pub last : n.last < 2 ^ 64
