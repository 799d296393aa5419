use Rattle.std.proofs.Common.{refl, string_bytes}
use Rattle.std.proofs.{lemmas.Str.{IsUtf8-string_bytes}, lemmas.Result.{err_from_is_err_and}}
use Rattle.ocfl_report.specs.Line.{Line}
use Rattle.ocfl_report.proofs.LineTexts.{fields_of, IsLine-from_text, text_from_fields}
use Rattle.ocfl_report.proofs.reading.read_line.Goals as goal

pub returns-in_default-read_code-clause-bad : goal.returns-in_default-read_code-clause-bad
returns-in_default-read_code-clause-bad c = λ _ l h.
    let f = c.in-Some.fields in
    let parts = fields_of c.args.bytes.now f.code.now f.place.now f.detail.now l (IsLine-from_text _ l h) c.in-Some.ensures.first.0 c.in-Some.ensures.first.1 c.in-Some.ensures.some h.is in
    c.in_default-read_code.ensures.none refl l.code parts.0

pub returns-in_err-place-clause-bad : goal.returns-in_err-place-clause-bad
returns-in_err-place-clause-bad c = λ bad l h.
    let f = c.in-Some.fields in
    let parts = fields_of c.args.bytes.now f.code.now f.place.now f.detail.now l (IsLine-from_text _ l h) c.in-Some.ensures.first.0 c.in-Some.ensures.first.1 c.in-Some.ensures.some h.is in
    c.in_err-place.ensures.bad (let p = err_from_is_err_and c.from_residual.result c.from_residual.ensures.1 in cc (p.1, p.2, bad)) l.place h.place parts.1.0

pub returns-in_err-detail-clause-bad : goal.returns-in_err-detail-clause-bad
returns-in_err-detail-clause-bad c = λ bad l h.
    let f = c.in-Some.fields in
    let parts = fields_of c.args.bytes.now f.code.now f.place.now f.detail.now l (IsLine-from_text _ l h) c.in-Some.ensures.first.0 c.in-Some.ensures.first.1 c.in-Some.ensures.some h.is in
    let p = err_from_is_err_and c.from_residual-in_err-detail.result c.from_residual-in_err-detail.ensures.1 in
    c.in_err-detail.ensures.bad (cc (p.1, p.2, bad)) l.detail h.detail parts.1.1

pub returns-clause-ok : goal.returns-clause-ok
returns-clause-ok c =
    let f = c.in-Some.fields in
    let line : Line = record { code = c.in-Some-read_code.code; place = c.in_ok-place.place; detail = string_bytes c.in_ok-detail.detail } in
    record {
      place = c.in_ok-place.ensures.names;
      detail = IsUtf8-string_bytes c.in_ok-detail.detail;
      is = text_from_fields c.args.bytes.now f.code.now f.place.now f.detail.now line c.in-Some.ensures.some c.in-Some-read_code.ensures.some c.in_ok-place.ensures.ok c.in_ok-detail.ensures.text;
    }
