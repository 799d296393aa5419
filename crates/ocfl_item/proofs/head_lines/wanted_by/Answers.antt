use Rattle.std.proofs.Common.{◌≡◌, true, sym, ◌∙◌, subst}
use Rattle.ocfl_tree.proofs.Orders.{true_not_false}
use Rattle.ocfl_digest.specs.{Wanted.{wants}, declared.algorithm.Algorithm.TheVariants.{Sha256}}
use Rattle.ocfl_item.proofs.head_lines.wanted_by.Goals as goal
use Rattle.ocfl_item.proofs.head_lines.wanted_by.Goals.{then-is_some, else-is_some}

pub returns-then-is_some-2-clause-short : goal.returns-then-is_some-2-clause-short
returns-then-is_some-2-clause-short c = λ there.
    let before : wants c.if-is_some.wanted Sha256 ≡ true =
    elim c.if-is_some.branch as (λ _. wants c.if-is_some.wanted Sha256 ≡ true) [
      | then-is_some w ↦ subst (λ x. wants x Sha256 ≡ true) (sym w.wanted-is) w.with-wanted.ensures.added
      | else-is_some w ↦ absurd (true_not_false (sym there ∙ sym c.is_some.ensures ∙ w.if-is_some.false))
    ] in
    c.with-wanted-then-is_some-2.ensures.others Sha256 (λ e. cc) ∙ before
