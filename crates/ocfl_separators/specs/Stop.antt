-- What it says of a reader's bytes that no separators were read.
use Rattle.std.specs.Prelude.{◌<◌, ◌⊎◌, length, ⊤}
use Rattle.ocfl_tree.specs.Place.{Text}
use Rattle.ocfl_separators.specs.Parts.{max_bytes, HasMoreLines, IsBadLine, IsFirstBad}
use Rattle.ocfl_separators.specs.declared.reading.PartsStop.{PartsStop}
use Rattle.ocfl_separators.specs.declared.reading.PartsStop.TheVariants.{Line, Long, Read, Memory}

-- too many bytes come first, then the lines in their order: the first bad one, or one more than
-- there may be
abbrev pub StopsRightly : Text → PartsStop → Type 0
StopsRightly b (Line n) = IsBadLine b n
StopsRightly b Long = (max_bytes < length b) ⊎ HasMoreLines b
StopsRightly b Read = ⊤
StopsRightly b Memory = ⊤

-- the same of the lines alone
abbrev pub LinesStop : Text → PartsStop → Type 0
LinesStop b (Line n) = IsFirstBad b n
LinesStop b Long = HasMoreLines b
LinesStop b Read = ⊤
LinesStop b Memory = ⊤
