use Rattle.std.proofs.Common.{◌<◌, subst, All}
use Rattle.ocfl_report.proofs.Bytes.{utf8_bytes}
use Rattle.ocfl_report.proofs.laws.every_line_fits.Goals as goal

pub returns : goal.returns
returns c = record {
  place = c.every_place_has_names.ensures;
  detail = subst (All (λ b. b < 256)) c.as_str.ensures.value (utf8_bytes c.as_str.result.now c.as_str.utf8);
}
