use Rattle.ocfl_laws.proofs.RecordLaws.{clean_end, clean_limits, clean_count, clean_whole_count}
use Rattle.ocfl_laws.proofs.records.a_run_without_failures_takes_the_audits_items.Goals as goal

pub returns-clause-ended : goal.returns-clause-ended
returns-clause-ended c = clean_end

pub returns-clause-spent : goal.returns-clause-spent
returns-clause-spent c = clean_limits

pub returns-clause-counted : goal.returns-clause-counted
returns-clause-counted c = clean_count

pub returns-clause-counted_whole : goal.returns-clause-counted_whole
returns-clause-counted_whole c = clean_whole_count
