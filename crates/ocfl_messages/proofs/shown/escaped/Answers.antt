use Rattle.std.proofs.{Common.{◌∙◌}, lemmas.Result.{IfOk-weaker}}
use Rattle.ocfl_report.proofs.{Bytes.{bytes_from_type}, Encoded.{percent_encode-escape}}
use Rattle.ocfl_messages.proofs.shown.escaped.Goals as goal

pub returns : goal.returns
returns c =
    let small = bytes_from_type c.args.bytes.now c.type_inv.bytes in
    IfOk-weaker c.format.result _ _ (λ s h. h ∙ c.percent_encode.ensures.text ∙ percent_encode-escape c.args.bytes.now small) c.format.ensures.ok
