use Rattle.std.proofs.Common.{sym, ◌∙◌, ap}
use Rattle.ocfl_report.specs.Text.{escape, place_text}
use Rattle.ocfl_report.proofs.{Bytes.{utf8_bytes}, Encoded.{percent_encode-escape}}
use Rattle.ocfl_report.proofs.PathTexts.{path_text}
use Rattle.ocfl_report.proofs.display.DisplayPlaceDisplay.fmt.Goals as goal

pub returns-clause-writes : goal.returns-clause-writes
returns-clause-writes g c plain ok =
    let path = c.path-path.result.now in
    let small = utf8_bytes c.as_bytes.result.now c.as_bytes.ensures.utf8 in
    let shown = c.percent_encode.ensures.text ∙ percent_encode-escape c.as_bytes.result.now small ∙ ap escape c.as_bytes.ensures.value in
    let named = path_text path (sym c.is_empty.ensures ∙ c.if-is_empty.false) in
    let said = ap place_text (sym c.path-path.ensures.place) ∙ named in
    rw (said ∙ sym shown) (c.write.ensures.writes plain ok)
