use Rattle.std.proofs.{Common.{sym, ◌∙◌}, lemmas.Bool.{both_ways}}
use Rattle.ocfl_tree.proofs.Places.{text_eq-Decides}
use Rattle.ocfl_report.specs.declared.stop.TextStop.TheVariants.{Bad}
use Rattle.ocfl_cursor.proofs.Options.{passed_on}
use Rattle.ocfl_cursor.proofs.PartTexts.{end_of_word, end_of_path, no_end_of_word, no_end_of_path}
use Rattle.ocfl_cursor.proofs.part_decoding.read_end_text.Goals as goal

pub returns-then-is_bytes-clause-end : goal.returns-then-is_bytes-clause-end
returns-then-is_bytes-clause-end c = (text_eq-Decides _ _).0 (sym c.is_bytes.ensures ∙ c.if-is_bytes.true)

pub returns-in_err-read_place-clause-bad : goal.returns-in_err-read_place-clause-bad
returns-in_err-read_place-clause-bad c = λ e.
    no_end_of_word c.args.word.now c.args.text.now (sym c.is_bytes.ensures ∙ c.if-is_bytes.false) (c.is_place_of_word.ensures.0 c.if-is_place_of_word.true)
    (c.in_err-read_place.ensures.bad (passed_on c.from_residual.result c.in_err-read_place.field-0.0 Bad c.from_residual.ensures.1 e))

pub returns-then-is_place_of_word-clause-end : goal.returns-then-is_place_of_word-clause-end
returns-then-is_place_of_word-clause-end c =
    c.is_place_of_word.ensures.0 c.if-is_place_of_word.true ∙ end_of_word c.args.word.now c.in_ok-read_place.field-0 c.in_ok-read_place.ensures.ok

pub returns-in_err-read_place-2-clause-bad : goal.returns-in_err-read_place-2-clause-bad
returns-in_err-read_place-2-clause-bad c = λ e.
    let result = c.from_residual-in_err-read_place-2 in
    no_end_of_path c.args.word.now c.args.text.now (sym c.is_bytes.ensures ∙ c.if-is_bytes.false) (λ m. both_ways _ c.if-is_place_of_word.false (c.is_place_of_word.ensures.1 m))
    (c.in_err-read_place-2.ensures.bad (passed_on result.result c.in_err-read_place-2.field-0.0 Bad result.ensures.1 e))

pub returns-clause-end : goal.returns-clause-end
returns-clause-end c = end_of_path c.args.word.now c.args.text.now c.in_ok-read_place-2.field-0 (sym c.is_bytes.ensures ∙ c.if-is_bytes.false) c.in_ok-read_place-2.ensures.ok
