-- The closed reports stay as they are, over several calls.
use Rattle.std.proofs.Common.{refl, ◌∙◌}
use Rattle.ocfl_joining.specs.Reports.{SameReports, Seen}

pub same_reports : (s : Seen) → SameReports s s
same_reports s = record { bytes = refl; marks = refl; rest = refl }

pub reports_on : (a b c : Seen) → SameReports a b → SameReports b c → SameReports a c
reports_on a b c p q = record { bytes = q.bytes ∙ p.bytes; marks = q.marks ∙ p.marks; rest = q.rest ∙ p.rest }
