use Rattle.std.proofs.Common.{◌≡◌, ◌∙◌, ◌++◌, ◌∷◌, ◌-◌, [], Option, Some, ap, length, refl, subst, sym, take}
use Rattle.std.specs.Prelude.{IfSome, IsNone, IsSome}
use Rattle.ocfl_tree.specs.Place.{Place, Text}
use Rattle.ocfl_night.proofs.{Branches.{an_end, no_end}, Chains.{past_is}}
use Rattle.ocfl_night.proofs.leaving.end_of.Goals as goal

pub returns-in_default-2 : goal.returns-in_default-2
returns-in_default-2 c =
    let none = subst (λ (o : Option Text). IsNone o) (sym c.in_default-2.is) refl in
    sym (no_end c.args.branch.now _ c.in-Some.name.now c.in-Some.ensures.0 (c.in_ok-longer.ensures.long c.in-Some.ensures.1 none))

pub returns : goal.returns
returns c =
    let b = c.args.branch.now in
    let name = c.in-Some.name.now in
    let split = c.in-Some.ensures.0 in
    let some = subst (λ (o : Option Text). IsSome o) (sym c.in-Some-2.is) refl in
    let longer = subst (λ (o : Option Text). IfSome o (λ (n : Text). n ≡ name ++ 1 ∷ [])) c.in-Some-2.is c.in_ok-longer.ensures.named in
    let end = c.in_ok-end.ensures ∙ ap (λ (n : Text). take (length b - 1) b ++ n ∷ []) longer ∙ past_is b _ name split in
    ap (λ (p : Place). Some p) end ∙ sym (an_end b _ name split (c.in_ok-longer.ensures.short some))
