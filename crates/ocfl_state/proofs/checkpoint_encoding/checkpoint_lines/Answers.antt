use Rattle.std.proofs.Common.{◌≡◌, ◌++◌, [], ap, subst, ◌∙◌}
use Rattle.ocfl_state.specs.{Checkpoint.{Checkpoint, shown_text}, CheckpointLines.{all_left}}
use Rattle.ocfl_state.proofs.CheckpointWriting.{written_whole}
use Rattle.ocfl_state.proofs.checkpoint_encoding.checkpoint_lines.Goals as goal

pub returns : goal.returns
returns c =
    let i = c.checkpoint.inside in
    let v : Checkpoint =
    record { root = i.root; names = i.names; phase = i.phase; whole = i.whole; report = i.report; said = i.said; left = i.left.items; part = i.part; cursor = i.cursor } in
    let left = c.in_ok-put_all_left.ensures ∙ ap (λ ls. c.put_count.new.text.items ++ all_left ls []) c.deref.ensures.value in
    let cursor = c.in_ok-extend_from_slice.ensures.items ∙ ap (λ t. c.put_all_left.new.text.items ++ t) (c.deref-2.ensures.value ∙ c.in_ok-cursor.ensures) in
    subst (λ (w : Checkpoint). c.extend_from_slice.new.self.items ≡ shown_text w) c.checkpoint.view_is
    (written_whole v _ _ _ _ _ _ _ _ c.new-lines.ensures.items c.in_ok-put_root.ensures c.in_ok-put_names.ensures c.in_ok-put_standing.ensures c.in_ok-put_mark.ensures
    c.in_ok-put_count.ensures left cursor)
