use Rattle.std.proofs.Common.{◌≡◌, map, take}
use Rattle.serde_json.specs.View.{view}
use Rattle.ocfl_codes.specs.Json.{rows_data}
use Rattle.ocfl_codes.proofs.as_json.rows_value.Given as goal

abbrev pub invariant-loop-code : goal.invariant-loop-code
invariant-loop-code l = map view l.rows.items ≡ rows_data (take l.code-index l.codes)
