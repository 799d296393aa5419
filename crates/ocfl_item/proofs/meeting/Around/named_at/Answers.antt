use Rattle.std.proofs.Common.{◌≡◌, ◌∙◌, IfOk, ap, drop, map, subst}
use Rattle.ocfl_inventory.specs.{Table.{named}, TripleView.{named_view}}
use Rattle.ocfl_item.proofs.meeting.Around.named_at.Goals as goal

pub returns : goal.returns
returns c =
    let inner = c.in_ok-inner.ensures ∙ ap (λ n. drop n c.args.place.now) c.depth.ensures in
    subst (λ q. IfOk c.named.result (λ v. map named_view v.items ≡ named c.args.self.now.table q)) inner c.named.ensures
