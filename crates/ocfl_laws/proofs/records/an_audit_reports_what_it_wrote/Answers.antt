use Rattle.ocfl_laws.proofs.records.an_audit_reports_what_it_wrote.Goals as goal

pub returns : goal.returns
returns c = record {
  lines = λ old new ran h. h.lines;
  nothing = λ old new ran h none. (h.none_found none, h.silent none);
}
