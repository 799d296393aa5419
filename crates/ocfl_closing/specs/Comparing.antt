-- Why the reports of closed cycles were not compared.
use Rattle.std.specs.Prelude.{ℕ, ◌++◌, codes, decimal}
use Rattle.ocfl_tree.specs.Place.{Text}
use Rattle.ocfl_report.specs.Text.{escape}
use Rattle.ocfl_files.specs.Failing.{Says, stopped_status}
use Rattle.ocfl_files.specs.declared.failing.Failure.{Failure}

-- the report of a cycle was not compared with that of one before, with words why
abbrev pub uncompared_text : ℕ → ℕ → Text → Text
uncompared_text cycle before words =
    codes "the report of cycle " ++ decimal cycle ++ codes " was not compared with that of cycle " ++ decimal before ++ codes ": " ++ words ++ codes "\n"

-- it was not, since one of the two was changed
abbrev pub changed_text : ℕ → ℕ → ℕ → Text
changed_text cycle before changed =
    codes "the report of cycle " ++ decimal cycle ++ codes " was not compared with that of cycle " ++ decimal before ++ codes ": that of cycle " ++ decimal changed ++ codes " was changed since it was closed\n"

abbrev pub gone_text : Text → ℕ → Text
gone_text state cycle = codes "the report of cycle " ++ decimal cycle ++ codes " is gone from " ++ escape state ++ codes "\n"

-- its lines were not counted, with words why
abbrev pub uncounted_text : Text → ℕ → Text → Text
uncounted_text state cycle words = codes "the report of cycle " ++ decimal cycle ++ codes " in " ++ escape state ++ codes ": " ++ words ++ codes "\n"

-- such a text is said with some words, of which nothing is known here
abbrev pub SaysSome : (Text → Text) → Failure → Type 0
SaysSome text f = (words : Text) × Says stopped_status (text words) f
