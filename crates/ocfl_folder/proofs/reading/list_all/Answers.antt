use Rattle.ocfl_folder.proofs.Coverings.{covers_none, covers_all, covers_next}
use Rattle.ocfl_folder.proofs.reading.list_all.Goals as goal

pub loop-init : goal.loop-init
loop-init g c = λ told p is. rw c.new-listed.ensures (covers_none _ p _ (c.in-Ok.ensures told p is))

pub returns-then-not-branch-clause-listed : goal.returns-then-not-branch-clause-listed
returns-then-not-branch-clause-listed g c = λ told p is. covers_all _ p _ _ _ _ _ c.if-not-branch.true (c.in_ok-next_name.ensures.given told) (c.loop.invariant told p is)

pub loop-preserved : goal.loop-preserved
loop-preserved g c = λ told p is. covers_next _ p _ _ _ _ _ _ _ c.if-not-branch.false (c.in_ok-next_name.ensures.given told) c.deref.ensures.value (c.loop.invariant told p is) (c.in_ok-add_entry.ensures.added told p is)
