-- Numbers in decimal.
use Rattle.std.specs.Prelude.{◌≡◌, ◌≢◌, ◌<◌, length, slice_index}
use Rattle.ocfl_tree.specs.Place.{Text}

-- begins as a number that is written without a sign and without leading zeros
pub record IsPlain (digits : Text) : Type 0 where
  pub some : 0 < length digits
  pub no_sign : slice_index digits 0 ≢ 43
  pub no_zero : slice_index digits 0 ≡ 48 → length digits ≡ 1
