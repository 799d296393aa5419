use Rattle.std.proofs.{Common.{◌∙◌, ◌∷◌, ap, arith, true}, lemmas.{Fmt.{hex_byte}, Result.{IfOk-weaker}}}
use Rattle.ocfl_terminal.proofs.naming.escaped.Goals as goal

pub returns : goal.returns
returns c = IfOk-weaker c.format.result _ _
    (λ s h. (rw c.laid_out.ensures at (rw c.in_radix.ensures at h)) ∙ ap (λ t. 92 ∷ 120 ∷ t) (hex_byte true c.args.byte (omega (arith, c.ranges.byte.fits))))
    c.format.ensures.ok
