-- A row of the log has neither floats nor members within members.
use Rattle.std.proofs.Common.{◌≡◌, false, refl}
use Rattle.serde_json.specs.{Data.{depth}, Written.{has_float}}
use Rattle.ocfl_messages.specs.Log.{row_data}
use Rattle.ocfl_messages.specs.declared.log.LogRow.{LogRow}
use Rattle.ocfl_messages.specs.declared.log.LogRow.TheVariants.{Began, Slice, Left, Closing, Refusal, Night}

pub row_has_no_float : (row : LogRow) → has_float (row_data row) ≡ false
row_has_no_float (Began _) = refl
row_has_no_float (Slice _) = refl
row_has_no_float (Left _) = refl
row_has_no_float (Closing _) = refl
row_has_no_float (Refusal _) = refl
row_has_no_float (Night _) = refl

pub row_depth : (row : LogRow) → depth (row_data row) ≡ 1
row_depth (Began _) = refl
row_depth (Slice _) = refl
row_depth (Left _) = refl
row_depth (Closing _) = refl
row_depth (Refusal _) = refl
row_depth (Night _) = refl
