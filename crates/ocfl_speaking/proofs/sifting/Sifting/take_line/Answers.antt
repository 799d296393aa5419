use Rattle.std.proofs.{Common.{◌∙◌, ap, sym, refl, arith}, lemmas.Result.{on_ok_weaker}}
use Rattle.ocfl_speaking.proofs.Steps.{passed, sifted}
use Rattle.ocfl_speaking.proofs.sifting.Sifting.take_line.Goals as goal

pub returns-then-is_passed-clause-taken : goal.returns-then-is_passed-clause-taken
returns-then-is_passed-clause-taken c = λ g one h.
    passed c.args.known.now c.args.self.now _ g c.args.text.now h c.requires one (sym (c.is_passed.ensures _ h.within) ∙ c.if-is_passed.true) (λ m k. omega (arith, k, c.saturating_add-self.ensures)) refl refl refl refl

pub returns-clause-taken : goal.returns-clause-taken
returns-clause-taken c =
    on_ok_weaker c.read.result
    (λ reads g one h.
    let r = c.take_right.ensures.read c.args.known.now g h in
    sifted c.args.known.now _ _ (reads g r one (sym (c.is_passed.ensures _ (ap (λ w. w.items) (sym c.take_right.ensures.within) ∙ r.within)) ∙ c.if-is_passed.false))) c.read.ensures.read
