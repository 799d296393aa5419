use Rattle.ocfl_scrub.proofs.command.audited.Goals as goal

pub returns-clause-told : goal.returns-clause-told
returns-clause-told g c told root over short = record {
  ran = c.audit.result;
  audits = c.audit.ensures.told told root over short;
  says = c.describe_audit.ensures.note;
}
