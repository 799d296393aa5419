use Rattle.std.proofs.{Common.{IsUtf8, sym, ap, ◌∙◌, subst}, lemmas.Bool.{both_ways}}
use Rattle.ocfl_report.specs.Text.{escape}
use Rattle.ocfl_report.proofs.Encoded.{decoded_text}
use Rattle.ocfl_report.proofs.escaped.read_escaped.Goals as goal

pub returns-in-Err-Utf8-clause-bad : goal.returns-in-Err-Utf8-clause-bad
returns-in-Err-Utf8-clause-bad c = λ _ text utf8 e.
    let decoded = c.percent_decode.ensures.bytes ∙ decoded_text c.args.bytes.now text utf8 e in
    let failed = c.in-Err-Utf8.ensures.utf8 (subst IsUtf8 (sym decoded) utf8) in
    cc (failed, c.in-Err-Utf8.field-0-is)

pub returns-then-not-is_escaped_form-clause-bad : goal.returns-then-not-is_escaped_form-clause-bad
returns-then-not-is_escaped_form-clause-bad c = λ _ text utf8 e.
    let decoded = c.percent_decode.ensures.bytes ∙ decoded_text c.args.bytes.now text utf8 e in
    let same = c.as_bytes.ensures.value ∙ c.as_str.ensures.value ∙ c.in-Ok.ensures.value ∙ decoded in
    both_ways _ c.if-not-is_escaped_form.true (c.is_escaped_form.ensures.1 (e ∙ ap escape (sym same)))

pub returns-clause-text : goal.returns-clause-text
returns-clause-text c =
    c.is_escaped_form.ensures.0 c.if-not-is_escaped_form.false ∙ ap escape (c.as_bytes.ensures.value ∙ c.as_str.ensures.value ∙ sym c.in_ok-into_owned.ensures.ok)
