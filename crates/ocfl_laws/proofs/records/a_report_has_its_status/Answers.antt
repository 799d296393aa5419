use Rattle.ocfl_laws.proofs.records.a_report_has_its_status.Goals as goal

pub returns : goal.returns
returns c = record {
  status = λ old new status n h. h.status_is;
  lines = λ old new status n h. h.lines;
  uncut = λ old new status n h. h.uncut;
  unread = λ status n h. (h.status_is, (h.stops, h.said));
}
