use Rattle.ocfl_closed.proofs.reader.ReportReaderRead.read.Goals as goal

pub accept-requires-clause-within : goal.accept-requires-clause-within
accept-requires-clause-within g c = c.in-Ok.ensures.bound.0
