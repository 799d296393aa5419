use Rattle.std.proofs.Common.{refl, sym, ap, codes, ◌∙◌}
use Rattle.hex.specs.Hex.{encode_lower}
use Rattle.ocfl_state.specs.CheckpointLines.{field_line, sizes_text}
use Rattle.ocfl_state.proofs.CheckpointTexts.{digest_line_determines, sizes_line_determines}
use Rattle.ocfl_state.proofs.checkpoint_account.read_mark.Goals as goal

pub returns-in_err-pieces-clause-missing : goal.returns-in_err-pieces-clause-missing
returns-in_err-pieces-clause-missing c = λ e m rest h f.
    let first = sizes_line_determines (codes "report ") c.in_ok-bytes.bytes c.in_ok-bytes.lines m.bytes m.lines c.in_ok-bytes.rest.now _
    c.in_ok-bytes.ensures.fits.0 c.in_ok-bytes.ensures.fits.1 h.bytes h.lines (sym c.in_ok-bytes.ensures.found ∙ f) in
    c.in_err-pieces.ensures.missing refl m.pieces _ h.pieces first.rest

pub returns-in_err-tail-clause-missing : goal.returns-in_err-tail-clause-missing
returns-in_err-tail-clause-missing c = λ e m rest h f.
    let first = sizes_line_determines (codes "report ") c.in_ok-bytes.bytes c.in_ok-bytes.lines m.bytes m.lines c.in_ok-bytes.rest.now _
    c.in_ok-bytes.ensures.fits.0 c.in_ok-bytes.ensures.fits.1 h.bytes h.lines (sym c.in_ok-bytes.ensures.found ∙ f) in
    let second = digest_line_determines (codes "pieces ") c.in_ok-pieces.pieces m.pieces c.in_ok-pieces.rest.now _ c.in_ok-pieces.ensures.fits h.pieces (sym c.in_ok-pieces.ensures.found ∙ first.rest) in
    c.in_err-tail.ensures.missing refl m.tail rest h.tail second.1

pub returns-clause-found : goal.returns-clause-found
returns-clause-found c =
    c.in_ok-bytes.ensures.found
    ∙ ap (λ t. field_line (codes "report ") (sizes_text c.in_ok-bytes.bytes c.in_ok-bytes.lines) t)
    (c.in_ok-pieces.ensures.found ∙ ap (λ t. field_line (codes "pieces ") (encode_lower c.in_ok-pieces.pieces) t) c.in_ok-tail.ensures.found)

pub returns-in_err-bytes-clause-missing : goal.returns-in_err-bytes-clause-missing
returns-in_err-bytes-clause-missing c = λ e m rest h f. c.in_err-bytes.ensures.missing refl m.bytes m.lines _ h.bytes h.lines f
