use Rattle.std.proofs.lemmas.Result.{err_from_is_err_and}
use Rattle.ocfl_item.proofs.HeadCalls.{both_read, first_stops, over_file, read_as, second_stops}
use Rattle.ocfl_item.proofs.object.sidecars_among.Goals as goal

pub returns-in_err-short : goal.returns-in_err-short
returns-in_err-short g c = record {
  told = λ h root over further has.
      let p = err_from_is_err_and c.from_residual.result c.from_residual.ensures.1 in
      rw (p.1, p.2) (first_stops further root _ _ _ _ _ _ _ (read_as further root _ _ _ _ _ _ _ _ c.sidecar_name.ensures has.told.0 has.short (c.in_err-short.ensures.told h root over further)));
}

pub returns-in_err-long : goal.returns-in_err-long
returns-in_err-long g c = record {
  told = λ h root over further has.
      let p = err_from_is_err_and c.from_residual-in_err-long.result c.from_residual-in_err-long.ensures.1 in
      let short = read_as further root _ _ _ _ _ _ _ _ c.sidecar_name.ensures has.told.0 has.short (c.in_ok-short.ensures.told h root over further) in
      let long = read_as further root _ _ _ _ _ _ _ _ c.sidecar_name-2.ensures has.told.1 has.long (c.in_err-long.ensures.told h root (over_file further root _ _ _ _ _ _ short) further) in
      rw (p.1, p.2) (second_stops further root _ _ _ _ _ _ _ _ _ short long);
}

pub returns : goal.returns
returns g c = record {
  told = λ h root over further has.
      let short = read_as further root _ _ _ _ _ _ _ _ c.sidecar_name.ensures has.told.0 has.short (c.in_ok-short.ensures.told h root over further) in
      let long = read_as further root _ _ _ _ _ _ _ _ c.sidecar_name-2.ensures has.told.1 has.long (c.in_ok-long.ensures.told h root (over_file further root _ _ _ _ _ _ short) further) in
      both_read further root _ _ _ _ _ _ _ _ _ short long;
}
