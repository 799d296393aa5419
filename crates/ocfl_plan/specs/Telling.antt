-- What went out of an output that says messages.
use Rattle.std.specs.Prelude.{Option}
use Rattle.std.specs.Io.KnownBytes.{Appends}
use Rattle.ocfl_tree.specs.Place.{Text}

-- a message with these words went to a writer that had taken this before and that then
abbrev pub Went : (Text → Type 0) → Option Text → Option Text → Type 0
Went words old new = (text : Text) × words text × Appends old new text
