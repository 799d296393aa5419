use Rattle.std.proofs.Common.{sym, ◌∙◌, ap}
use Rattle.ocfl_report.specs.Text.{escape}
use Rattle.ocfl_report.proofs.{Bytes.{utf8_bytes}, Encoded.{percent_encode-escape}}
use Rattle.ocfl_messages.proofs.shown.ShownDisplay.fmt.Goals as goal

pub returns-clause-writes : goal.returns-clause-writes
returns-clause-writes g c plain ok =
    let small = utf8_bytes c.as_bytes.result.now c.as_bytes.ensures.utf8 in
    let shown = c.percent_encode.ensures.text ∙ percent_encode-escape c.as_bytes.result.now small ∙ ap escape c.as_bytes.ensures.value in
    rw (sym shown) (c.write.ensures.writes plain ok)
