use Rattle.std.proofs.{Common.{◌≡◌, ◌++◌, sym, ap, ◌∙◌}, lemmas.Result.{IfOk-weaker, IfErr-at_err}}
use Rattle.ocfl_separators.specs.Separators.{parts_text}
use Rattle.ocfl_separators.proofs.PartsTexts.{parts_text_determines, no_bad_line}
use Rattle.ocfl_separators.proofs.laws.parts_read_back.Goals as goal

pub returns-in-Ok-clause-same : goal.returns-in-Ok-clause-same
returns-in-Ok-clause-same c =
    let ps = c.args.separators.now in
    let written : c.as_slice-reader.result.now ≡ parts_text ps = c.as_slice-reader.ensures.value ∙ c.in-Ok.ensures.ok ∙ ap (λ t. t ++ parts_text ps) c.new-text.ensures.items in
    IfOk-weaker c.read_parts.result _ _ (λ read h. parts_text_determines read ps h.separators c.places.ensures.rule (sym h.is ∙ written)) c.read_parts.ensures.separators

pub returns-in-Ok-clause-no_bad_line : goal.returns-in-Ok-clause-no_bad_line
returns-in-Ok-clause-no_bad_line c = λ n e.
    let ps = c.args.separators.now in
    let written : c.as_slice-reader.result.now ≡ parts_text ps = c.as_slice-reader.ensures.value ∙ c.in-Ok.ensures.ok ∙ ap (λ t. t ++ parts_text ps) c.new-text.ensures.items in
    let bad = IfErr-at_err _ e c.read_parts.ensures.refused in
    no_bad_line c.as_slice-reader.result.now n ps c.places.ensures.rule written bad.first
