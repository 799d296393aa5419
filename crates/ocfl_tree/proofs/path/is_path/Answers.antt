use Rattle.std.proofs.{Common.{◌≡◌, false, sym, ◌∙◌, ap, not}, lemmas.Bool.{not-true}}
use Rattle.std.specs.{Prelude.{◌==◌}, List.{list_any}}
use Rattle.ocfl_tree.proofs.Orders.{true_not_false}
use Rattle.ocfl_tree.proofs.PathNames.{place_from_tests, place_fits, place_has_no_zero}
use Rattle.ocfl_tree.proofs.path.is_path.Goals as goal

pub returns-then-not-has_zero : goal.returns-then-not-has_zero
returns-then-not-has_zero c =
    let some = sym c.is_empty.ensures ∙ c.if-is_empty.false in
    let no_zero : list_any (λ b. b == 0) c.args.path.now ≡ false = sym (c.has_zero.ensures ∙ ap (list_any (λ b. b == 0)) c.as_bytes.ensures.value) ∙ c.if-not-has_zero.true in (
      λ h. place_from_tests c.args.path.now c.utf8.path some no_zero (sym c.all_fit.ensures ∙ h),
      λ h. c.all_fit.ensures ∙ place_fits c.args.path.now some h,
    )

pub returns-else-not-has_zero : goal.returns-else-not-has_zero
returns-else-not-has_zero c =
    let some = sym c.is_empty.ensures ∙ c.if-is_empty.false in (
      λ h. absurd (true_not_false (sym c.if-not-has_zero.false ∙ not-true _ h)),
      λ h. ap not (c.has_zero.ensures ∙ ap (list_any (λ b. b == 0)) c.as_bytes.ensures.value ∙ place_has_no_zero c.args.path.now some h),
    )
