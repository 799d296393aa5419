use Rattle.std.proofs.{Common.{◌≡◌}, lemmas.Str.{IsUtf8-string_bytes}, lemmas.Result.{IfOk-weaker}}
use Rattle.ocfl_report.specs.{Line.{line_of}, Text.{line_text, IsLineText}}
use Rattle.ocfl_report.proofs.LineTexts.{line_text_read}
use Rattle.ocfl_report.proofs.laws.line_reads_back.Goals as goal

pub returns-clause-same : goal.returns-clause-same
returns-clause-same c =
    let line = line_of c.args.line.now in
    let is : c.as_slice.result.now ≡ line_text line = rw (c.as_slice.ensures.value, c.in_ok-put.ensures.ok, c.new-written.ensures.items) in
    let written : IsLineText c.as_slice.result.now line = record { place = c.every_line_fits.ensures.place; detail = IsUtf8-string_bytes c.args.line.now.detail; is = is } in
    IfOk-weaker c.read_line.result _ _ (λ read h. line_text_read c.as_slice.result.now (line_of read) line h written) c.read_line.ensures.ok

pub returns-clause-never_bad : goal.returns-clause-never_bad
returns-clause-never_bad c = λ bad.
    let line = line_of c.args.line.now in
    let is : c.as_slice.result.now ≡ line_text line = rw (c.as_slice.ensures.value, c.in_ok-put.ensures.ok, c.new-written.ensures.items) in
    c.read_line.ensures.bad bad line (record { place = c.every_line_fits.ensures.place; detail = IsUtf8-string_bytes c.args.line.now.detail; is = is })
