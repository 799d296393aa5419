use Rattle.std.proofs.Common.{◌≤◌, length, refl, arith}
use Rattle.ocfl_cursor.specs.{Refusal.{max_text, RefusedRightly}, Refused.{refusal_of}}
use Rattle.ocfl_cursor.proofs.{CursorTexts.{IsTextOf-sealed}, Options.{IfErr-passed}}
use Rattle.ocfl_cursor.proofs.Refusals.{refused_cursor, refused_not_cursor, too_long, unread_cursor}
use Rattle.ocfl_cursor.proofs.decoding.decode.Goals as goal

pub returns-then-text-gt-MAX_TEXT-clause-refused : goal.returns-then-text-gt-MAX_TEXT-clause-refused
returns-then-text-gt-MAX_TEXT-clause-refused c = refused_not_cursor c.args.text.now (too_long c.args.text.now (omega arith))

pub returns-in_err-body-clause-refused : goal.returns-in_err-body-clause-refused
returns-in_err-body-clause-refused c =
    let few : length c.args.text.now ≤ max_text = omega arith in
    IfErr-passed (RefusedRightly c.args.text.now) c.from_residual.result c.in_err-body.field-0.0 c.from_residual.ensures.1
    (refused_cursor c.args.text.now c.in_err-body.field-0.0 few c.in_err-body.ensures.refused)

pub returns-in_err-read_body-clause-refused : goal.returns-in_err-read_body-clause-refused
returns-in_err-read_body-clause-refused c =
    let few : length c.args.text.now ≤ max_text = omega arith in
    let result = c.from_residual-in_err-read_body in
    let why = c.in_err-read_body.field-0.0 in
    IfErr-passed (RefusedRightly c.args.text.now) result.result (refusal_of why) result.ensures.1
    (unread_cursor c.args.text.now c.in_ok-body.body.now why few (c.in_ok-body.ensures.passed refl) c.in_ok-body.ensures.body (λ e. c.in_err-read_body.ensures.bad (cc e)))

pub returns-clause-cursor : goal.returns-clause-cursor
returns-clause-cursor c = IsTextOf-sealed c.args.text.now c.in_ok-body.body.now c.in_ok-read_body.field-0 c.in_ok-body.ensures.body c.in_ok-read_body.ensures.cursor
