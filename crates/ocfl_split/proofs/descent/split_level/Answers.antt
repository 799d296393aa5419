use Rattle.std.proofs.Common.{◌≡◌, ◌≤◌, ◌∙◌, ℕ, Some, None, inl, sym, ap, subst, true, false, length, arith}
use Rattle.std.proofs.{lemmas.Bool.{le-leb, lt-leb}, lemmas.Result.{err_from_is_err_and}}
use Rattle.std.specs.Prelude.{nat_le}
use Rattle.ocfl_split.specs.Internal.Directories.{IsLevel, AreListable}
use Rattle.ocfl_split.specs.Splitting.{room_below, next_level, wider, kept, listed_within, ListsAll, ListsStop}
use Rattle.ocfl_split.proofs.Below.{over_after}
use Rattle.ocfl_split.proofs.Ranks.{IsNoneOrLevel, first_level_is, wider_is, kept_is}
use Rattle.ocfl_split.proofs.Descents.{split_begins, can_list, split_enough, split_ends, split_fails, split_last, split_on}
use Rattle.ocfl_split.proofs.descent.split_level.Goals as goal

pub loop-depth-init : goal.loop-depth-init
loop-depth-init g c = record {
  fair = first_level_is c.in_ok-level.level.items c.in_ok-level.ensures;
  above = inl (ap length c.new-above.ensures.items);
  told = λ h root over. split_begins root c.args.count (g.T.Tree.state c.args.store.now) c.new-above.result.items c.in_ok-level.level.items over c.new-above.ensures.items c.in_ok-level.ensures;
}

pub returns-then-len-count-clause-told : goal.returns-then-len-count-clause-told
returns-then-len-count-clause-told g c = λ h root over.
    let enough : nat_le c.args.count (length c.loop-depth.level.items) ≡ true =
    le-leb c.args.count (length c.loop-depth.level.items) (omega (arith, c.len.ensures, c.loop-depth.level.ok.0, c.if-len-count.true)) in
    split_enough root c.args.count (g.T.Tree.state c.args.store.now) (g.T.Tree.state c.loop-depth.store) c.loop-depth.depth c.loop-depth.above.items
    c.loop-depth.level.items (c.loop-depth.invariant.told h root over) enough

pub returns-in_err-next-clause-told : goal.returns-in_err-next-clause-told
returns-in_err-next-clause-told g c = λ h root over.
    let p = err_from_is_err_and c.from_residual-in_err-next.result c.from_residual-in_err-next.ensures.1 in
    let few : nat_le c.args.count (length c.loop-depth.level.items) ≡ false = lt-leb c.args.count (length c.loop-depth.level.items) (omega (arith, c.len.ensures, c.loop-depth.level.ok.0, c.if-len-count.false)) in
    let room : c.saturating_sub-room.result ≡ room_below c.loop-depth.above.items c.loop-depth.level.items = omega (arith, c.saturating_sub.ensures, c.saturating_sub-room.ensures, c.len-in-loop-depth.ensures, c.len-in-loop-depth-2.ensures, c.loop-depth.level.ok.0, c.loop-depth.above.ok.0) in
    let so = c.loop-depth.invariant.told h root over in
    let can = subst (AreListable root) (sym c.deref.ensures.value) (can_list root c.args.count (g.T.Tree.state c.args.store.now) (g.T.Tree.state c.loop-depth.store) c.loop-depth.depth c.loop-depth.above.items c.loop-depth.level.items so c.loop-depth.invariant.fair c.loop-depth-test.true) in
    let stops = subst (λ xs. ListsStop root (g.T.Tree.state c.loop-depth.store) (g.T.Tree.state c.next_level.new.store)
    (listed_within root c.saturating_sub-room.result xs) c.in_err-next.field-0.0) c.deref.ensures.value (c.in_err-next.ensures.told h root (over_after root _ _ _ so.lists) can) in
    rw (p.1, p.2) (split_fails root c.args.count (g.T.Tree.state c.args.store.now) (g.T.Tree.state c.loop-depth.store) c.loop-depth.depth
    c.loop-depth.above.items c.loop-depth.level.items so (g.T.Tree.state c.next_level.new.store) c.saturating_sub-room.result c.loop-depth-test.true few room c.in_err-next.field-0.0 stops)

pub returns-in-None-clause-fair : goal.returns-in-None-clause-fair
returns-in-None-clause-fair g c =
    subst (λ xs. (depth : ℕ) × IsLevel depth xs) (sym c.wider-in-None.ensures)
    (wider_is c.loop-depth.depth c.loop-depth.above.items c.loop-depth.level.items c.loop-depth.invariant.above c.loop-depth.invariant.fair)

pub returns-in-None-clause-told : goal.returns-in-None-clause-told
returns-in-None-clause-told g c = λ h root over.
    let few : nat_le c.args.count (length c.loop-depth.level.items) ≡ false = lt-leb c.args.count (length c.loop-depth.level.items) (omega (arith, c.len.ensures, c.loop-depth.level.ok.0, c.if-len-count.false)) in
    let room : c.saturating_sub-room.result ≡ room_below c.loop-depth.above.items c.loop-depth.level.items = omega (arith, c.saturating_sub.ensures, c.saturating_sub-room.ensures, c.len-in-loop-depth.ensures, c.len-in-loop-depth-2.ensures, c.loop-depth.level.ok.0, c.loop-depth.above.ok.0) in
    let so = c.loop-depth.invariant.told h root over in
    let can = subst (AreListable root) (sym c.deref.ensures.value) (can_list root c.args.count (g.T.Tree.state c.args.store.now) (g.T.Tree.state c.loop-depth.store) c.loop-depth.depth c.loop-depth.above.items c.loop-depth.level.items so c.loop-depth.invariant.fair c.loop-depth-test.true) in
    let k = subst (λ xs. (None ≡ next_level root c.saturating_sub-room.result xs) × ListsAll root (g.T.Tree.state c.loop-depth.store)
    (g.T.Tree.state c.next_level.new.store) (listed_within root c.saturating_sub-room.result xs)) c.deref.ensures.value
    (rw c.in-None.is at (c.in_ok-next.ensures.told h root (over_after root _ _ _ so.lists) can)) in
    let ends = split_last root c.args.count (g.T.Tree.state c.args.store.now) (g.T.Tree.state c.loop-depth.store) c.loop-depth.depth
    c.loop-depth.above.items c.loop-depth.level.items so (g.T.Tree.state c.next_level.new.store) c.saturating_sub-room.result c.loop-depth-test.true few room k.0 k.1 in
    (c.wider-in-None.ensures ∙ ends.0, ends.1)

pub loop-depth-preserved : goal.loop-depth-preserved
loop-depth-preserved g c =
    let is : c.keep-above.result.items ≡ kept (wider c.loop-depth.above.items c.loop-depth.level.items) c.in-Some.next.items =
    c.keep-above.ensures ∙ ap (kept c.wider.result.items) c.deref-in-Some.ensures.value ∙ ap (λ xs. kept xs c.in-Some.next.items) c.wider.ensures in
    let most : c.saturating_sub-room.result ≤ 1000000 = omega (arith, c.saturating_sub.ensures, c.saturating_sub-room.ensures) in
    record {
      fair = (rw c.in-Some.is at c.in_ok-next.ensures.fair) most c.loop-depth.depth (subst (IsLevel c.loop-depth.depth) (sym c.deref.ensures.value) c.loop-depth.invariant.fair);
      above = subst IsNoneOrLevel (sym is)
          (kept_is (wider c.loop-depth.above.items c.loop-depth.level.items) c.in-Some.next.items
          (wider_is c.loop-depth.depth c.loop-depth.above.items c.loop-depth.level.items c.loop-depth.invariant.above c.loop-depth.invariant.fair));
      told = λ h root over.
          let few : nat_le c.args.count (length c.loop-depth.level.items) ≡ false = lt-leb c.args.count (length c.loop-depth.level.items) (omega (arith, c.len.ensures, c.loop-depth.level.ok.0, c.if-len-count.false)) in
          let room : c.saturating_sub-room.result ≡ room_below c.loop-depth.above.items c.loop-depth.level.items = omega (arith, c.saturating_sub.ensures, c.saturating_sub-room.ensures, c.len-in-loop-depth.ensures, c.len-in-loop-depth-2.ensures, c.loop-depth.level.ok.0, c.loop-depth.above.ok.0) in
          let so = c.loop-depth.invariant.told h root over in
          let can = subst (AreListable root) (sym c.deref.ensures.value) (can_list root c.args.count (g.T.Tree.state c.args.store.now) (g.T.Tree.state c.loop-depth.store) c.loop-depth.depth c.loop-depth.above.items c.loop-depth.level.items so c.loop-depth.invariant.fair c.loop-depth-test.true) in
          let k = subst (λ xs. (Some c.in-Some.next.items ≡ next_level root c.saturating_sub-room.result xs) × ListsAll root
          (g.T.Tree.state c.loop-depth.store) (g.T.Tree.state c.next_level.new.store) (listed_within root c.saturating_sub-room.result xs)) c.deref.ensures.value
          (rw c.in-Some.is at (c.in_ok-next.ensures.told h root (over_after root _ _ _ so.lists) can)) in
          split_on root c.args.count (g.T.Tree.state c.args.store.now) (g.T.Tree.state c.loop-depth.store) c.loop-depth.depth c.loop-depth.above.items
          c.loop-depth.level.items so (g.T.Tree.state c.next_level.new.store) c.saturating_sub-room.result c.loop-depth-test.true few room
          c.keep-above.result.items c.in-Some.next.items is k.0 k.1;
    }

pub returns-clause-fair : goal.returns-clause-fair
returns-clause-fair g c = subst (λ xs. (depth : ℕ) × IsLevel depth xs) (sym c.wider-2.ensures)
    (wider_is c.loop-depth.depth c.loop-depth.above.items c.loop-depth.level.items c.loop-depth.invariant.above c.loop-depth.invariant.fair)

pub returns-clause-told : goal.returns-clause-told
returns-clause-told g c = λ h root over.
    let ends = split_ends root c.args.count (g.T.Tree.state c.args.store.now) (g.T.Tree.state c.loop-depth.store) c.loop-depth.depth
    c.loop-depth.above.items c.loop-depth.level.items (c.loop-depth.invariant.told h root over) c.loop-depth-test.false in
    (c.wider-2.ensures ∙ ends.0, ends.1)
