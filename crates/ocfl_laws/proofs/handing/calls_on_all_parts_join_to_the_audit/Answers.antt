use Rattle.ocfl_laws.proofs.CallsJoined.{called_opened, called_reports}
use Rattle.ocfl_laws.proofs.handing.calls_on_all_parts_join_to_the_audit.Goals as goal

pub returns : goal.returns
returns c = record { reports = called_reports; opened = called_opened }
