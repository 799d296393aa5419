-- The report as a night finds it, beside what the checkpoint keeps of it.
use Rattle.std.specs.Prelude.{⊤}
use Rattle.ocfl_state.specs.declared.finding.FoundReport.{FoundReport}
use Rattle.ocfl_state.specs.declared.finding.FoundReport.TheVariants.{Whole, Lost}
use Rattle.ocfl_state.specs.declared.pieces.ReportDigests.{ReportDigests}

-- it is found as the checkpoint says
abbrev pub IsWhole : FoundReport → Type 0
IsWhole (Whole digests) = ⊤
IsWhole (Lost digests) = ⊥

-- the same, with digests of which this holds
abbrev pub IsWholeWith : (ReportDigests → Type 0) → FoundReport → Type 0
IsWholeWith Holds (Whole digests) = Holds digests
IsWholeWith Holds (Lost digests) = ⊥

-- if it is not, this holds of the digests of what is there
abbrev pub IfLost : (ReportDigests → Type 0) → FoundReport → Type 0
IfLost Holds (Whole digests) = ⊤
IfLost Holds (Lost digests) = Holds digests
