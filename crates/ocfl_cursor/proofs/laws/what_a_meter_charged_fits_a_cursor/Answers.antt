use Rattle.std.proofs.Common.{arith}
use Rattle.ocfl_cursor.proofs.laws.what_a_meter_charged_fits_a_cursor.Goals as goal

pub returns : goal.returns
returns c = λ d m s h k r p. record {
  first = h.first;
  cycle = h.cycle;
  runs = r;
  spent = omega (arith, h.spent, k.spent, k.budget);
  files = omega (arith, h.files, k.paid);
  place = p;
}
