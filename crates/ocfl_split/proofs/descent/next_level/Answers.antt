use Rattle.std.proofs.Common.{◌≡◌, ◌∙◌, ◌≤◌, [], sym, subst, true, length, arith}
use Rattle.std.proofs.lemmas.Result.{err_from_is_err_and}
use Rattle.ocfl_item.specs.Ways.{is_listable}
use Rattle.ocfl_item.proofs.LooksEntries.{no_entries, some_entries}
use Rattle.ocfl_split.proofs.Below.{over_after}
use Rattle.ocfl_split.proofs.Deeper.{one_more, one_too_many, one_stops, all_listed, none_deeper, one_deeper}
use Rattle.ocfl_split.proofs.Ranks.{below_more, next_level_is}
use Rattle.ocfl_split.proofs.descent.next_level.Goals as goal

pub returns-in_err-add_below-clause-told : goal.returns-in_err-add_below-clause-told
returns-in_err-add_below-clause-told g c = λ h root over l.
    let p = err_from_is_err_and c.from_residual.result c.from_residual.ensures.1 in
    let so = c.loop-place.invariant.told h root over l in
    let here = subst (λ x. is_listable root x ≡ true) (sym c.place-item.is) (l c.loop-place.place-index c.place-item.result c.loop-place-test.true) in
    let stops = c.in_err-add_below.ensures.told h root (over_after root _ _ _ so.lists) here in
    rw (p.1, p.2) (one_stops root (g.T.Tree.state c.args.store.now) (g.T.Tree.state c.loop-place.store) (g.T.Tree.state c.add_below.new.store) c.args.room
    c.args.level.now c.loop-place.place-index c.place-item.result c.loop-place.next.items so c.loop-place-test.true c.place-item.is c.in_err-add_below.field-0.0 stops)

pub returns-then-not-branch-clause-told : goal.returns-then-not-branch-clause-told
returns-then-not-branch-clause-told g c = λ h root over l.
    let so = c.loop-place.invariant.told h root over l in
    let here = subst (λ x. is_listable root x ≡ true) (sym c.place-item.is) (l c.loop-place.place-index c.place-item.result c.loop-place-test.true) in
    let adds = c.in_ok-add_below.ensures.told h root (over_after root _ _ _ so.lists) here in
    one_too_many root (g.T.Tree.state c.args.store.now) (g.T.Tree.state c.loop-place.store) (g.T.Tree.state c.add_below.new.store) c.args.room c.args.level.now
    c.loop-place.place-index c.place-item.result c.loop-place.next.items so c.loop-place-test.true c.place-item.is adds.1 c.loop-place.invariant.few (adds.0.many c.if-not-branch.true)

pub loop-place-preserved : goal.loop-place-preserved
loop-place-preserved g c =
    let fair = c.in_ok-add_below.ensures.fair c.if-not-branch.false in
    let few = fair.few c.loop-place.invariant.few in
    record {
      few = few;
      fair = λ depth h. below_more depth c.args.level.now c.loop-place.place-index c.place-item.result c.args.room c.loop-place.next.items
          c.add_below.new.next.items h c.loop-place-test.true c.place-item.is (c.loop-place.invariant.fair depth h) fair;
      told = λ h root over l.
          let so = c.loop-place.invariant.told h root over l in
          let here = subst (λ x. is_listable root x ≡ true) (sym c.place-item.is) (l c.loop-place.place-index c.place-item.result c.loop-place-test.true) in
          let adds = c.in_ok-add_below.ensures.told h root (over_after root _ _ _ so.lists) here in
          one_more root (g.T.Tree.state c.args.store.now) (g.T.Tree.state c.loop-place.store) (g.T.Tree.state c.add_below.new.store) c.args.room
          c.args.level.now c.loop-place.place-index c.place-item.result c.loop-place.next.items so c.loop-place-test.true c.place-item.is
          c.add_below.new.next.items adds.1 (adds.0.added c.if-not-branch.false) few;
    }

pub returns-then-is_empty-clause-told : goal.returns-then-is_empty-clause-told
returns-then-is_empty-clause-told g c = λ h root over l.
    let so = c.loop-place.invariant.told h root over l in
    let empty : c.loop-place.next.items ≡ [] = no_entries c.loop-place.next.items c.loop-place.next.len c.loop-place.next.ok.0 (sym c.if-is_empty.true ∙ c.is_empty.ensures) in (
      none_deeper root (g.T.Tree.state c.args.store.now) (g.T.Tree.state c.loop-place.store) c.args.room c.args.level.now c.loop-place.place-index
          c.loop-place.next.items so c.loop-place-test.false empty,
      all_listed root (g.T.Tree.state c.args.store.now) (g.T.Tree.state c.loop-place.store) c.args.room c.args.level.now c.loop-place.place-index c.loop-place.next.items so c.loop-place-test.false,
    )

pub returns-clause-fair : goal.returns-clause-fair
returns-clause-fair g c = λ most depth h.
    let few : length c.loop-place.next.items ≤ 1000000 = omega (arith, most, c.loop-place.invariant.few) in
    next_level_is depth c.args.level.now c.loop-place.place-index c.loop-place.next.items c.loop-place-test.false h (c.loop-place.invariant.fair depth h) few

pub returns-clause-told : goal.returns-clause-told
returns-clause-told g c = λ h root over l.
    let so = c.loop-place.invariant.told h root over l in
    let some = some_entries c.loop-place.next.items c.loop-place.next.len c.loop-place.next.ok.0 (sym c.if-is_empty.false ∙ c.is_empty.ensures) in (
      one_deeper root (g.T.Tree.state c.args.store.now) (g.T.Tree.state c.loop-place.store) c.args.room c.args.level.now c.loop-place.place-index
          c.loop-place.next.items so c.loop-place-test.false some c.loop-place.invariant.few,
      all_listed root (g.T.Tree.state c.args.store.now) (g.T.Tree.state c.loop-place.store) c.args.room c.args.level.now c.loop-place.place-index c.loop-place.next.items so c.loop-place-test.false,
    )
