use Rattle.std.proofs.{Common.{◌≡◌, inl, ◌∙◌}, lemmas.Result.{IfOk-weaker}}
use Rattle.ocfl_cursor.specs.Refusal.{IsTextOf}
use Rattle.ocfl_cursor.proofs.CursorTexts.{text_determines}
use Rattle.ocfl_scrub.proofs.cycling.handed_on.Goals as goal

pub returns-clause-same : goal.returns-clause-same
returns-clause-same c =
    let written = c.deref.ensures.value ∙ c.in_ok-text.ensures.text in
    IfOk-weaker c.decode.result (IsTextOf c.deref.result.now) (λ read. read ≡ c.args.cursor.now)
    (λ read h. text_determines c.deref.result.now read c.args.cursor.now h (record { keeps = c.encode.ensures.keeps; is = inl written })) c.decode.ensures.cursor
