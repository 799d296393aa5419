use Rattle.std.proofs.Common.{◌≡◌, Some, ap, refl, sym, true, ◌∙◌}
use Rattle.ocfl_report.specs.Line.{line_of}
use Rattle.ocfl_messages.specs.Finding.{is_other}
use Rattle.ocfl_messages.proofs.Gathered.{begins_anew}
use Rattle.ocfl_messages.proofs.gathering.Gathering.begin.Goals as goal

pub returns : goal.returns
returns c = λ says fs s h.
    let l = line_of c.args.line.now in
    let other : is_other s.head l ≡ true = ap (λ o. is_other o l) (sym h.head) ∙ sym c.is_other.ensures ∙ c.if-not-is_other.false in
    begins_anew says c.args.self.now _ fs s l other h (c.fill.ensures.found says fs s h) (ap Some c.in_ok-try_clone.ensures) refl refl c.new.ensures
