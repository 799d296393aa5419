use Rattle.std.proofs.Common.{sym, ap, ◌∙◌, ◌&&◌}
use Rattle.ocfl_memory.specs.Faults.{is_met}
use Rattle.ocfl_tree.proofs.Places.{place_eq-pointwise}
use Rattle.ocfl_memory.proofs.plan.is_of.Goals as goal

pub returns-then-eq : goal.returns-then-eq
returns-then-eq c =
    let same = sym (place_eq-pointwise c.args.planned.now.0 c.args.place.now) ∙ sym c.eq.ensures ∙ c.if-eq.true in
    c.is_met.ensures ∙ ap (λ b. b && is_met c.args.planned.now.1 c.args.call) (sym same)

pub returns-else-eq : goal.returns-else-eq
returns-else-eq c =
    let other = sym (place_eq-pointwise c.args.planned.now.0 c.args.place.now) ∙ sym c.eq.ensures ∙ c.if-eq.false in
    c.if-eq.false ∙ ap (λ b. b && is_met c.args.planned.now.1 c.args.call) (sym other)
