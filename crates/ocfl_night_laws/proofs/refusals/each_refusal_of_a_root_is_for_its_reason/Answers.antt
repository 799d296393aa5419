use Rattle.ocfl_night_laws.proofs.Reasons.{names_gone_is, no_root_is, other_audit_is, other_declaration_is, other_part_is, other_root_is}
use Rattle.ocfl_night_laws.proofs.refusals.each_refusal_of_a_root_is_for_its_reason.Goals as goal

pub returns-clause-no_root : goal.returns-clause-no_root
returns-clause-no_root c = λ tells s site plan k. no_root_is

pub returns-clause-other_root : goal.returns-clause-other_root
returns-clause-other_root c = λ tells s site plan k path. other_root_is path

pub returns-clause-other_part : goal.returns-clause-other_part
returns-clause-other_part c = λ tells s site plan k. other_part_is

pub returns-clause-other_audit : goal.returns-clause-other_audit
returns-clause-other_audit c = λ tells s site plan k further. other_audit_is further

pub returns-clause-other_declaration : goal.returns-clause-other_declaration
returns-clause-other_declaration c = λ tells s site plan k. other_declaration_is

pub returns-clause-names_gone : goal.returns-clause-names_gone
returns-clause-names_gone c = λ tells s site plan k gone before. names_gone_is gone before
