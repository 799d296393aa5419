use Rattle.std.proofs.Common.{◌≡◌, ◌-◌, ◌++◌, length, sym, ap₂, ◌∙◌, take-append-drop}
use Rattle.ocfl_cursor.specs.Sealed.{seal_line}
use Rattle.ocfl_cursor.proofs.Texts.{text_eq-same}
use Rattle.ocfl_cursor.proofs.seal.sealed_body.Goals as goal

pub returns-then-is_bytes-clause-found : goal.returns-then-is_bytes-clause-found
returns-then-is_bytes-clause-found c =
    let text = c.args.text.now in
    let seal : c.split_at.result.1.now ≡ seal_line c.args.front c.split_at.result.0.now = text_eq-same _ _ (sym c.is_bytes.ensures ∙ c.if-is_bytes.true) ∙ c.seal_line.ensures in
    sym (take-append-drop (length text - 72) text) ∙ ap₂ (λ x y. x ++ y) (sym c.split_at.ensures.front) (sym c.split_at.ensures.back ∙ seal)
