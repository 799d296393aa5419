use Rattle.std.proofs.{Common.{◌≡◌, sym, ◌∙◌, false}, lemmas.Map.Text.{is_eq-slice_cmp}}
use Rattle.std.specs.Ordering.{is_eq, eq_by_cmp}
use Rattle.ocfl_tree.specs.Place.{text_cmp}
use Rattle.ocfl_inventory.specs.{Table.{Triple, triple_cmp}, TripleView.{named_view}}
use Rattle.ocfl_inventory.proofs.TripleOrders.{digests_differ}
use Rattle.ocfl_inventory.proofs.triple.TriplePartialEq.eq.Goals as goal

pub returns-else-eq : goal.returns-else-eq
returns-else-eq c =
    let x : Triple = record { path = c.self.inside.path; named = named_view c.self.inside.named } in
    let y : Triple = record { path = c.other.inside.path; named = named_view c.other.inside.named } in
    let apart : is_eq (text_cmp x.named.digest y.named.digest) ≡ false = is_eq-slice_cmp x.named.digest y.named.digest ∙ sym c.eq.ensures ∙ c.if-eq.false in
    c.if-eq.false ∙ sym (digests_differ x y apart) ∙ (λ i. eq_by_cmp triple_cmp (c.self.view_is i) (c.other.view_is i))
