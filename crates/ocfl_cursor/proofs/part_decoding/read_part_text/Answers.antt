use Rattle.std.proofs.Common.{sym, ◌∙◌}
use Rattle.ocfl_cursor.specs.{PartRefusal.{AnyPartRefusedRightly}, Refused.{refusal_of}}
use Rattle.ocfl_cursor.proofs.{Options.{IfErr-passed}, PartTexts.{IsPartText-sealed}}
use Rattle.ocfl_cursor.proofs.PartRefusals.{damaged_part, unread_part}
use Rattle.ocfl_cursor.proofs.part_decoding.read_part_text.Goals as goal

pub returns-in_default-clause-refused : goal.returns-in_default-clause-refused
returns-in_default-clause-refused c =
    damaged_part c.args.text.now (sym c.is_part_front.ensures ∙ c.if-not-is_part_front.false) (sym c.in_default.ensures.sealed)

pub returns-in_err-read_part_body-clause-refused : goal.returns-in_err-read_part_body-clause-refused
returns-in_err-read_part_body-clause-refused c =
    let why = c.in_err-read_part_body.field-0.0 in
    IfErr-passed (AnyPartRefusedRightly c.args.text.now) c.from_residual.result (refusal_of why) c.from_residual.ensures.1
    (unread_part c.args.text.now c.in-Some.body.now why (sym c.is_part_front.ensures ∙ c.if-not-is_part_front.false) c.in-Some.ensures.found
    (λ e. c.in_err-read_part_body.ensures.bad (cc e)))

pub returns-clause-part : goal.returns-clause-part
returns-clause-part c =
    let read = c.in_ok-read_part_body.field-0 in
    IsPartText-sealed read.0 c.args.text.now c.in-Some.body.now read.1 c.in-Some.ensures.found c.in_ok-read_part_body.ensures.part
