use Rattle.std.proofs.Common.{sym}
use Rattle.ocfl_tree.specs.Calls.{with_given}
use Rattle.ocfl_memory.proofs.Watches.{changed_last, some_last}
use Rattle.ocfl_memory.proofs.openings.add_given.Goals as goal

pub returns-clause-ok : goal.returns-clause-ok
returns-clause-ok c =
    let is = rw c.deref.ensures.value at c.in-Some.ensures.value in
    changed_last (with_given c.args.count) c.args.openings.now.items _ (some_last _ _ (sym is)) c.note_given.ensures
