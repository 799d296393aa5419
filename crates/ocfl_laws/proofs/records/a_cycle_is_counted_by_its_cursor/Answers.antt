use Rattle.std.proofs.Common.{refl, sym}
use Rattle.ocfl_laws.proofs.records.a_cycle_is_counted_by_its_cursor.Goals as goal

pub returns : goal.returns
returns c = record {
  none = λ further s t old new ran h.
      let all = h.none refl in
      (all.0, (all.1, (all.2, (all.3, all.4))));
  counted = λ further s t old new limits ran h. (h.counted, h.made);
  cursor = λ further s t old new limits ran h. (h.first, (sym h.runs_are, (sym h.spent_is, sym h.files_are)));
  audit = λ further s t old new limits ran h. h.further_is;
  end = λ further s t old new limits ran h. h.ended_is;
  lines = λ further s t old new limits ran h. h.lines;
}
