-- The table has neither floats nor members within members.
use Rattle.std.proofs.Common.{◌≡◌, false, refl}
use Rattle.serde_json.specs.{Data.{depth}, Written.{has_float}}
use Rattle.ocfl_codes.specs.Json.{table_data}

pub table_has_no_float : has_float table_data ≡ false
table_has_no_float = refl

pub table_depth : depth table_data ≡ 2
table_depth = refl
