use Rattle.std.proofs.Common.{sym}
use Rattle.ocfl_tree.specs.Calls.{with_failure}
use Rattle.ocfl_memory.proofs.Watches.{changed_last, some_last, failure_counted, not_reading}
use Rattle.ocfl_memory.proofs.openings.add_failure.Goals as goal

pub returns-then-last-clause-kept : goal.returns-then-last-clause-kept
returns-then-last-clause-kept c = λ reading.
    let is = rw c.deref.ensures.value at c.in-Some.ensures.value in
    absurd (not_reading c.args.openings.now.items _ (sym is) c.if-last.true reading)

pub returns-clause-ok : goal.returns-clause-ok
returns-clause-ok c =
    let is = rw c.deref.ensures.value at c.in-Some.ensures.value in
    changed_last with_failure c.args.openings.now.items _ (some_last _ _ (sym is)) c.note_failure.ensures

pub returns-clause-counted : goal.returns-clause-counted
returns-clause-counted c =
    let is = rw c.deref.ensures.value at c.in-Some.ensures.value in
    failure_counted _ _ (sym is) _ c.if-last.false c.note_failure.ensures
