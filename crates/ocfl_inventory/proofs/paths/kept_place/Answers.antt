use Rattle.std.proofs.Common.{◌≡◌, ◌↔◌, List, ℕ, sym, subst, ◌∙◌, IfSome, IsNone}
use Rattle.ocfl_tree.specs.{Name.{IsPlace}, Path.{names_of}}
use Rattle.ocfl_inventory.proofs.Kept.{elsewhere_is_bad, kept_from_path}
use Rattle.ocfl_inventory.proofs.paths.kept_place.Goals as goal

pub returns-then-is_elsewhere : goal.returns-then-is_elsewhere
returns-then-is_elsewhere c = elsewhere_is_bad c.args.content.now c.args.text.now (sym c.is_elsewhere.ensures ∙ c.if-is_elsewhere.true)

pub returns : goal.returns
returns c =
    let some = subst (λ (t : List ℕ). IfSome c.from_path.result (λ p. p ≡ names_of t)) c.in_ok-from_str.ensures.ok c.from_path.ensures.some in
    let none = subst (λ (t : List ℕ). IsNone c.from_path.result ↔ (IsPlace (names_of t) → ⊥)) c.in_ok-from_str.ensures.ok c.from_path.ensures.none in
    kept_from_path c.args.content.now c.args.text.now c.from_path.result c.utf8.text (sym c.is_elsewhere.ensures ∙ c.if-is_elsewhere.false) some none
