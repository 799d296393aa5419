use Rattle.std.proofs.{Common.{◌∙◌, ap₂, arith}, lemmas.Result.{IfOk-weaker}}
use Rattle.ocfl_messages.{specs.Log.{row_data, row_with}, proofs.LogRows.{row_has_no_float, row_depth}}
use Rattle.ocfl_messages.proofs.log.log_line.Goals as goal

pub returns : goal.returns
returns c =
    let row = c.args.row.now in
    let built = c.in_ok-value.ensures ∙ ap₂ (row_with row) (c.as_str.ensures.value ∙ c.in_ok-words.ensures) (c.as_str-2.ensures.value ∙ c.in_ok-other.ensures) in
    IfOk-weaker c.line_of.result _ _ (λ line h. h (row_data row) built (row_has_no_float row) (omega (arith, row_depth row))) c.line_of.ensures
