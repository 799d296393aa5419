use Rattle.ocfl_codes.proofs.Rows.{one_row}
use Rattle.ocfl_codes.proofs.laws.each_code_has_one_row.Goals as goal

pub returns : goal.returns
returns c = one_row
