use Rattle.std.proofs.Common.{◌≡◌, [], ◌∷◌, ◌++◌, sym, subst, rules}
use Rattle.ocfl_tree.specs.{Ascending.{IsAscending}, Place.{place_cmp}}
use Rattle.ocfl_separators.specs.Separators.{AreSeparators}
use Rattle.ocfl_separators.proofs.Orders.{AreSeparators-push, AreSeparators-had}
use Rattle.ocfl_separators.proofs.separators.Separators.push.Goals as goal

pub invariant_of-self-2 : goal.invariant_of-self-2
invariant_of-self-2 c =
    let front = c.self.inside.places.items in
    let ascend = subst (λ xs. IsAscending place_cmp (xs ++ c.args.place ∷ [])) c.as_slice.ensures.value (c.is_above.ensures.0 c.if-not-is_above.false) in
    let made = AreSeparators-push front c.args.place (AreSeparators-had front c.self.invariant) c.every_place_has_names.ensures ascend in
    let items : c.push.new.self.items ≡ front ++ c.args.place ∷ [] = search rules in
    ∣ subst AreSeparators (sym items) made ∣₁

pub returns-clause-rule : goal.returns-clause-rule
returns-clause-rule c =
    let front = c.self.inside.places.items in
    let ascend = subst (λ xs. IsAscending place_cmp (xs ++ c.args.place ∷ [])) c.as_slice.ensures.value (c.is_above.ensures.0 c.if-not-is_above.false) in
    let made = AreSeparators-push front c.args.place (AreSeparators-had front c.self.invariant) c.every_place_has_names.ensures ascend in
    let items : c.push.new.self.items ≡ front ++ c.args.place ∷ [] = search rules in
    subst AreSeparators (sym items) made
