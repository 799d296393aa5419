use Rattle.std.proofs.Common.{◌≡◌, ◌∙◌, ◌++◌, ◌∷◌, [], ap, sym, Bool, false, nat_eq}
use Rattle.std.specs.{Prelude.{◌||◌}, List.{starts_with}, Cmp.Lexicographic.{texts_ties}}
use Rattle.ocfl_tree.specs.Place.{Text, text_eq}
use Rattle.ocfl_rules.specs.Zone.{inventory_name}
use Rattle.ocfl_night.proofs.leaving.is_of_inventory.Goals as goal

pub returns-else-eq : goal.returns-else-eq
returns-else-eq c =
    let n = c.args.name.now in
    let other : text_eq n inventory_name ≡ false = sym (texts_ties n inventory_name) ∙ sym c.eq.ensures ∙ c.if-eq.false in
    c.starts_with.ensures.value ∙ ap (λ (t : Text). starts_with nat_eq t (inventory_name ++ 46 ∷ [])) c.as_bytes.ensures.value ∙ ap (λ (b : Bool). b || starts_with nat_eq n (inventory_name ++ 46 ∷ [])) (sym other)
