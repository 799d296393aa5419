use Rattle.ocfl_report.proofs.FindingLaws.{finding_items, finding_lists}
use Rattle.ocfl_report.proofs.laws.findings_are_exact.Goals as goal

pub returns-clause-items : goal.returns-clause-items
returns-clause-items c = finding_items

pub returns-clause-lists : goal.returns-clause-lists
returns-clause-lists c = finding_lists
