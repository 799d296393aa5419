use Rattle.std.proofs.Common.{◌≡◌, List, ◌∙◌, ap, subst, map}
use Rattle.std.specs.Prelude.{IfOk}
use Rattle.ocfl_inventory.specs.Table.{Table, Named, named, Triple}
use Rattle.ocfl_inventory.specs.TripleView.{named_view, named_among}
use Rattle.ocfl_inventory.proofs.table.Table.named.Goals as goal

pub returns : goal.returns
returns c = subst (λ (ns : List Named). IfOk c.clone_named.result (λ v. map named_view v.items ≡ ns))
    (c.triples_at.ensures ∙ ap (λ (xs : List Triple). named_among xs c.args.place.now) c.deref.ensures.value ∙ ap (λ (t : Table). named t c.args.place.now) c.self.view_is) c.clone_named.ensures
