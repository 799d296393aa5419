use Rattle.std.proofs.{Common.{◌∙◌, ap, arith}, lemmas.Result.{IfOk-weaker}}
use Rattle.serde_json.specs.{Data.{array}, View.{items_of}}
use Rattle.ocfl_codes.specs.Json.{rows_data, table_data}
use Rattle.ocfl_codes.proofs.Tables.{table_depth, table_has_no_float}
use Rattle.ocfl_codes.proofs.as_json.codes_json.Goals as goal

pub returns : goal.returns
returns c =
    let built = c.in_ok-value.ensures ∙ ap (λ cs. array (items_of (rows_data cs))) c.all_codes.ensures in
    IfOk-weaker c.line_of.result _ _ (λ line h. h table_data built table_has_no_float (omega (arith, table_depth))) c.line_of.ensures
