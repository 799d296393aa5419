use Rattle.std.proofs.{Common.{map}, lemmas.Result.{on_ok_weaker}}
use Rattle.ocfl_messages.specs.{Finding.{finding_of}}
use Rattle.ocfl_messages.proofs.{Closings.{new_whole}, Made.{made_text}}
use Rattle.ocfl_messages.proofs.closing.put_new.Goals as goal

pub returns : goal.returns
returns c = on_ok_weaker c.put_unsaid.result (λ said fs h l.
    let head = made_text c.new_head_of.result _ _ _ c.new_head_of.ensures c.in_ok-put_made.ensures in
    new_whole c.args.closing.now fs (map finding_of c.in_ok-kept.kept.items) _ _ _ c.if-closing-eq0.false (c.in_ok-kept.ensures fs h) head (rw c.as_slice.ensures.value at said)) c.put_unsaid.ensures
