use Rattle.std.proofs.Common.{refl, subst, sym}
use Rattle.ocfl_messages.specs.Found.{IsAfter}
use Rattle.ocfl_report.specs.Text.{lines_text}
use Rattle.ocfl_speaking.specs.Sifting.{lines_in}
use Rattle.ocfl_speaking.specs.Internal.{given_whole}
use Rattle.ocfl_speaking.proofs.Steps.{ended}
use Rattle.ocfl_speaking.proofs.sifting.Sifting.end.Goals as goal

pub returns : goal.returns
returns c = λ known g h.
    let r = c.take_right.ensures.read known (given_whole g h.lines c.args.self.now.rest.items) (c.cut.ensures.cut known g h) in
    let found = subst (λ f. IsAfter known g.head f (lines_text (lines_in r.lines))) (sym c.replace-found.ensures.value) r.found in
    ended known c.args.is_over c.args.self.now c.take_right.new.self _ g c.in-Ok.gravest c.in-Ok.heads h r (c.in-Ok.ensures.ok known g.head _ found) (c.new-3.ensures known) refl refl refl refl
