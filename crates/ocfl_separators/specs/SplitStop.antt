-- What it says of a report's bytes that it was not split.
use Rattle.std.specs.Prelude.{ℕ, ⊤}
use Rattle.ocfl_tree.specs.Place.{Text}
use Rattle.ocfl_separators.specs.Splits.{IsBadReportLine, HasManyCuts}
use Rattle.ocfl_separators.specs.declared.splitting.SplitStop.{SplitStop}
use Rattle.ocfl_separators.specs.declared.splitting.SplitStop.TheVariants.{Line, Many, Read, Memory}

abbrev pub SplitStopsRightly : ℕ → Text → SplitStop → Type 0
SplitStopsRightly budget b (Line n) = IsBadReportLine b n
SplitStopsRightly budget b Many = HasManyCuts budget b
SplitStopsRightly budget b Read = ⊤
SplitStopsRightly budget b Memory = ⊤
