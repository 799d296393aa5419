-- Why a night stopped, in words.
use Rattle.std.specs.Prelude.{ℕ, [], ◌++◌, Option, Some, None, codes}
use Rattle.ocfl_tree.specs.Place.{Text}
use Rattle.ocfl_report.specs.Text.{escape, place_text}
use Rattle.ocfl_messages.specs.{Night.{whose_text}, declared.stop.StopMessage.{StopMessage}}
use Rattle.ocfl_messages.specs.declared.stop.StopMessage.TheVariants.{At, Output, State, Memory}

-- the system's words on a failed call
abbrev pub brackets_text : Option Text → Text
brackets_text (Some words) = codes " (" ++ escape words ++ codes ")"
brackets_text None = []

abbrev pub why_text : StopMessage → Text → Text
why_text (At place) state = codes "stopped at " ++ place_text place.now
why_text Output state = codes "output failed"
why_text State state = escape state ++ codes " failed"
why_text Memory state = codes "out of memory"

-- what the next night does
abbrev pub next_text : StopMessage → Text
next_text (At place) = codes ". The next one tries that place again.\n"
next_text _ = codes ". The next one continues from the checkpoint.\n"

abbrev pub stop_text : StopMessage → Option Text → Option ℕ → Text → Text → Text
stop_text stop words part root state = codes "The night of " ++ whose_text part root ++ codes " stopped: " ++ why_text stop state ++ brackets_text words ++ next_text stop
