use Rattle.std.proofs.{Common.{map}, lemmas.Result.{on_ok_weaker}}
use Rattle.ocfl_messages.specs.{Finding.{finding_of}}
use Rattle.ocfl_messages.proofs.ShownLines.{some_whole}
use Rattle.ocfl_messages.proofs.night.put_some.Goals as goal

pub returns : goal.returns
returns c = on_ok_weaker c.put_unshown.result (λ put.
    some_whole c.args.root.now c.args.report.now c.args.room c.args.count (map finding_of c.args.kept.now) (map finding_of c.in_ok-leads.leads.items) _ _ _
    c.in_ok-leads.ensures (rw c.as_slice.ensures.value at c.in_ok-put_groups.ensures) (rw c.as_slice-2.ensures.value at put)) c.put_unshown.ensures
