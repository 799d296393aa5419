use Rattle.ocfl_laws.proofs.records.a_run_keeps_its_limits.Goals as goal

pub returns : goal.returns
returns c = record {
  worn = λ s t old new from limits ran h. h.worn;
  unmade = λ s t old new from limits ran h worn.
      let figures = h.worn_figures worn in
      let silent = h.worn_silent worn in
      (h.worn_cursor worn, (figures.0, (figures.1, (figures.2, (silent.0, silent.1)))));
  cursor = λ s t old new from limits ran h. h.cursor;
  paid = λ s t old new from limits ran h. (h.overrun, (h.paid.costs, (h.paid.paid, (h.paid.spent_is, h.paid.files_is))));
  lines = λ s t old new from limits ran h. h.lines;
}
