use Rattle.std.proofs.{Common.{◌∙◌}, lemmas.Result.{IfOk-weaker, MatchResult-weaker}}
use Rattle.ocfl_cursor.specs.Part.{IsPartText}
use Rattle.ocfl_cursor.proofs.{PartTexts.{part_text_determines}, PartRefusals.{only_memory}}
use Rattle.ocfl_cursor.proofs.laws.part_reads_back.Goals as goal

pub returns-in-Ok-clause-same : goal.returns-in-Ok-clause-same
returns-in-Ok-clause-same c =
    let e = c.args.ends.now in
    let written : IsPartText e c.deref.result.now c.args.cursor.now =
    record { ends = c.encode_part.ensures.ends; keeps = c.encode_part.ensures.keeps; is = c.deref.ensures.value ∙ c.in-Ok.ensures.text } in
    IfOk-weaker c.decode_part.result _ _ (λ read h. (part_text_determines c.deref.result.now e e read c.args.cursor.now h written).1) c.decode_part.ensures.cursor

pub returns-in-Ok-clause-not_refused : goal.returns-in-Ok-clause-not_refused
returns-in-Ok-clause-not_refused c =
    let e = c.args.ends.now in
    let written : IsPartText e c.deref.result.now c.args.cursor.now =
    record { ends = c.encode_part.ensures.ends; keeps = c.encode_part.ensures.keeps; is = c.deref.ensures.value ∙ c.in-Ok.ensures.text } in
    MatchResult-weaker c.decode_part.result c.decode_part.ensures.refused (λ _ h. h) (λ r h. only_memory e c.deref.result.now c.args.cursor.now written r h)
