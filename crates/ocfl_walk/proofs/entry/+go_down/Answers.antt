use Rattle.std.proofs.Common.{◌≡◌, ◌∙◌, ◌<◌, sym, ap, subst, arith, rules, length, ◌++◌, Some}
use Rattle.std.proofs.lemmas.Result.{err_from_is_err_and}
use Rattle.ocfl_item.specs.{Ways.{IsAt}, Around.{IsPart}, declared.folder.Folder.{Folder}}
use Rattle.ocfl_walk.specs.{Standing.{piles_in}, Internal.Entering.{IsComing}}
use Rattle.ocfl_walk.proofs.ReachLaws.{comes_end}
use Rattle.ocfl_walk.proofs.BroughtLaws.{came_fails, came_on, came_stop, coming_next, end_orderly, brought_end, orderly_at, stop_orderly}
use Rattle.ocfl_walk.proofs.PlacedLaws.{deeper, on_top}
use Rattle.ocfl_rules.proofs.AuditExists.{append_one}
use Rattle.ocfl_tree.proofs.Stores.{did_nothing}
use Rattle.ocfl_walk.proofs.entry.+go_down.Goals as goal

pub push-requires : goal.push-requires
push-requires g t c = omega (arith, c.requires.depth, c.requires.coming.short)

pub push-requires-2 : goal.push-requires-2
push-requires-2 g t c = omega (arith, c.requires.depth, c.requires.coming.short)

pub returns-in_default-clause-orderly : goal.returns-in_default-clause-orderly
returns-in_default-clause-orderly g t c =
    let fair = c.sorted.ensures.fair c.requires.coming.ordinary in
    let top = on_top c.args.stand.now.last c.args.stand.now.listings.items c.push.new.listings.items c.sorted.result c.args.folder.place c.args.names.now
    c.requires.way c.requires.depth c.sorted.ensures.place c.push.ensures.piles in
    end_orderly c.requires.coming top c.args.names.now (rw c.in_default.is at c.split_first.ensures.cases) fair.0 fair.1

pub returns-in_default-clause-told : goal.returns-in_default-clause-told
returns-in_default-clause-told g t c = λ h root over at part.
    let told = c.sorted.ensures.told root c.requires.coming.ordinary at.listing in
    let none = rw c.in_default.is at c.split_first.ensures.cases in
    let top = on_top c.args.stand.now.last c.args.stand.now.listings.items c.push.new.listings.items c.sorted.result c.args.folder.place c.args.names.now
    c.requires.way c.requires.depth c.sorted.ensures.place c.push.ensures.piles in (
      comes_end root c.args.further (g.T.Tree.state c.args.store.now) c.args.folder.place c.args.names.now _ none over (did_nothing (g.T.Tree.state c.args.store.now)),
      brought_end c.args.further at top c.args.names.now c.args.stand.now.around none told.0 told.1 part,
    )

pub returns-in_err-inner-clause-told : goal.returns-in_err-inner-clause-told
returns-in_err-inner-clause-told g t c = λ h root over at part.
    let parts = rw c.in-Some.is at c.split_first.ensures.cases in
    let p = err_from_is_err_and c.from_residual.result c.from_residual.ensures.1 in
    rw (p.1, p.2) (came_fails c.args.further root (g.T.Tree.state c.args.store.now) (g.T.Tree.state c.down.new.store) c.args.folder.place c.args.names.now c.in-Some.rest.now
    c.in-Some.name.now c.args.stand.now.around c.down.new.object _ parts.0 (c.in_err-inner.ensures.told h root over at part c.in-Some.rest.now))

pub go_down-requires : goal.go_down-requires
go_down-requires g t c =
    let parts = rw c.in-Some.is at c.split_first.ensures.cases in
    let fair = c.sorted-left.ensures.fair c.requires.coming.ordinary in
    let way = rw c.in-Some-inner.is at c.in_ok-inner.ensures.fair in
    let d = c.args.folder.place in
    let left : Folder = record { place = c.sorted-left.result.place; entries = c.keep_above.new.entries } in
    let top = on_top c.args.stand.now.last c.args.stand.now.listings.items c.push-2.new.listings.items left d c.args.names.now c.requires.way c.requires.depth
    c.sorted-left.ensures.place c.push-2.ensures.piles in
    let coming : IsComing c.in-Some-inner.inner.place c.in-Some-inner.inner.entries.items (piles_in c.args.stand.now.last c.push-2.new.listings.items) c.down.new.object =
    coming_next c.requires.coming top c.in-Some.name.now _ c.keep_above.ensures fair.0 fair.1 c.in-Some-inner.inner c.down.new.object way.0 way.1 in
    let last : c.args.stand.now.last ≡ Some (c.in-Some-inner.inner.place ++ c.in-Some.rest.now) =
    c.requires.way ∙ ap (λ q. Some (d ++ q)) parts.0 ∙ sym (ap (λ e. Some (e ++ c.in-Some.rest.now)) way.0.place ∙ ap (λ q. Some q) (append_one d c.in-Some.rest.now c.in-Some.name.now)) in
    let depth : length c.push-2.new.listings.items ≡ length c.in-Some-inner.inner.place =
    deeper c.args.stand.now.listings.items c.push-2.new.listings.items d c.in-Some.name.now c.in-Some-inner.inner.place c.push-2.ensures.count c.requires.depth way.0.place in
    let less : length c.in-Some.rest.now < length c.args.names.now = omega (arith, ap length parts.0) in
    search rules

pub returns-in-Some-inner-clause-told : goal.returns-in-Some-inner-clause-told
returns-in-Some-inner-clause-told g t c = λ h root over at part.
    let parts = rw c.in-Some.is at c.split_first.ensures.cases in
    let told = c.sorted-left.ensures.told root c.requires.coming.ordinary at.listing in
    let leads = rw c.in-Some-inner.is at c.in_ok-inner.ensures.told h root over at part c.in-Some.rest.now in
    let left : Folder = record { place = c.sorted-left.result.place; entries = c.keep_above.new.entries } in
    let top = on_top c.args.stand.now.last c.args.stand.now.listings.items c.push-2.new.listings.items left c.args.folder.place c.args.names.now c.requires.way
    c.requires.depth c.sorted-left.ensures.place c.push-2.ensures.piles in
    came_on c.args.further at top c.in-Some.name.now _ c.keep_above.ensures told.0 told.1 (g.T.Tree.state c.args.store.now) (g.T.Tree.state c.down.new.store) c.in-Some.rest.now
    c.args.names.now parts.0 c.args.stand.now.around c.down.new.object (g.T.Tree.state c.go_down.new.store) c.in-Some-inner.inner
    (piles_in c.go_down.new.stand.last c.go_down.new.stand.listings.items) c.go_down.new.stand.around leads c.go_down.result
    (c.go_down.ensures.told h root (leads.gives.0.goes.calls.did.tree ∙ over)
    (subst (λ e. IsAt root e c.in-Some-inner.inner.entries.items) (sym leads.gives.1.place) leads.gives.1.here)
    (subst (λ e. IsPart c.args.further root e c.down.new.object) (sym leads.gives.1.place) leads.gives.1.part))

pub returns-in-Some-inner-clause-orderly : goal.returns-in-Some-inner-clause-orderly
returns-in-Some-inner-clause-orderly g t c =
    let parts = rw c.in-Some.is at c.split_first.ensures.cases in
    let way = rw c.in-Some-inner.is at c.in_ok-inner.ensures.fair in
    orderly_at c.args.folder.place c.in-Some-inner.inner.place c.in-Some.rest.now c.args.names.now c.in-Some.name.now
    (piles_in c.go_down.new.stand.last c.go_down.new.stand.listings.items) c.go_down.new.stand.around c.go_down.result way.0.place parts.0 c.go_down.ensures.orderly

pub returns-in-None-clause-orderly : goal.returns-in-None-clause-orderly
returns-in-None-clause-orderly g t c =
    let parts = rw c.in-Some.is at c.split_first.ensures.cases in
    let fair = c.sorted-left.ensures.fair c.requires.coming.ordinary in
    let same = rw c.in-None.is at c.in_ok-inner.ensures.fair in
    let left : Folder = record { place = c.sorted-left.result.place; entries = c.keep_above.new.entries } in
    let top = on_top c.args.stand.now.last c.args.stand.now.listings.items c.push-2.new.listings.items left c.args.folder.place c.args.names.now c.requires.way
    c.requires.depth c.sorted-left.ensures.place c.push-2.ensures.piles in
    stop_orderly c.requires.coming top c.in-Some.name.now _ c.keep_above.ensures fair.0 fair.1 c.in-Some.rest.now c.args.names.now c.down.new.object parts.0 same

pub returns-in-None-clause-told : goal.returns-in-None-clause-told
returns-in-None-clause-told g t c = λ h root over at part.
    let parts = rw c.in-Some.is at c.split_first.ensures.cases in
    let told = c.sorted-left.ensures.told root c.requires.coming.ordinary at.listing in
    let leads = rw c.in-None.is at c.in_ok-inner.ensures.told h root over at part c.in-Some.rest.now in
    let left : Folder = record { place = c.sorted-left.result.place; entries = c.keep_above.new.entries } in
    let top = on_top c.args.stand.now.last c.args.stand.now.listings.items c.push-2.new.listings.items left c.args.folder.place c.args.names.now c.requires.way
    c.requires.depth c.sorted-left.ensures.place c.push-2.ensures.piles in
    came_stop c.args.further at top c.in-Some.name.now _ c.keep_above.ensures told.0 told.1 (g.T.Tree.state c.args.store.now) (g.T.Tree.state c.down.new.store) c.in-Some.rest.now
    c.args.names.now parts.0 c.args.stand.now.around c.down.new.object leads
