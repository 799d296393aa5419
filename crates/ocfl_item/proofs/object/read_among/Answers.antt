use Rattle.std.proofs.lemmas.Result.{err_from_is_err_and}
use Rattle.ocfl_item.proofs.FileLaws.{file_absent, file_memory, file_read, file_fails}
use Rattle.ocfl_item.proofs.object.read_among.Goals as goal

pub returns-in_err-place : goal.returns-in_err-place
returns-in_err-place g c = record {
  told = λ h root over further tells meta.
      let p = err_from_is_err_and c.from_residual.result c.from_residual.ensures.1 in
      rw (p.1, p.2) (file_memory further root _ _ _ _ over);
}

pub returns-in_default : goal.returns-in_default
returns-in_default g c = record {
  told = λ h root over further tells meta.
      file_absent further root _ _ meta _ tells _ _ over (rw c.in_default.is at c.in_ok-place.ensures);
}

pub returns-in-Ok : goal.returns-in-Ok
returns-in-Ok g c = record {
  told = λ h root over further tells meta.
      let there = rw c.in-Some.is at c.in_ok-place.ensures in
      file_read further root _ _ meta _ _ _ _ _ over there.0 (c.in-Ok.ensures.reads h root over);
}

pub returns-in-Err : goal.returns-in-Err
returns-in-Err g c = record {
  told = λ h root over further tells meta.
      let there = rw c.in-Some.is at c.in_ok-place.ensures in
      file_fails further root _ _ meta _ tells _ _ _ _ _ _ over there (c.in-Err.ensures.reads h root over) c.fault_at.ensures;
}
