-- What it says of two reports' bytes that they were not compared.
use Rattle.std.specs.Prelude.{⊤}
use Rattle.ocfl_tree.specs.Place.{Text}
use Rattle.ocfl_separators.specs.Splits.{IsBadReportLine}
use Rattle.ocfl_compare.specs.declared.stop.CompareStop.{CompareStop}
use Rattle.ocfl_compare.specs.declared.stop.CompareStop.TheVariants.{Before, Now, BeforeFailed, NowFailed, Output, Memory}

abbrev pub StopsRightly : Text → Text → CompareStop → Type 0
StopsRightly b n (Before k) = IsBadReportLine b k
StopsRightly b n (Now k) = IsBadReportLine n k
StopsRightly b n BeforeFailed = ⊤
StopsRightly b n NowFailed = ⊤
StopsRightly b n Output = ⊤
StopsRightly b n Memory = ⊤

-- the same if the bytes before are right
abbrev pub ReportStops : Text → CompareStop → Type 0
ReportStops b (Before k) = ⊥
ReportStops b (Now k) = IsBadReportLine b k
ReportStops b BeforeFailed = ⊤
ReportStops b NowFailed = ⊤
ReportStops b Output = ⊤
ReportStops b Memory = ⊤
