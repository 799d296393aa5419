use Rattle.std.proofs.{Common.{◌∙◌, ap, ◌++◌}, lemmas.Result.{on_ok_weaker}}
use Rattle.ocfl_messages.specs.Closing.{back_text, ended_text, gone_text, moved_text, new_text, repaired_text, uncompared_text, unlooked_text}
use Rattle.ocfl_messages.proofs.Made.{made_text}
use Rattle.ocfl_messages.proofs.closing.put_closing.Goals as goal

pub returns : goal.returns
returns c = on_ok_weaker c.put_changes.result (λ put fs h l.
    let of = c.args.closing.now in
    let ended = made_text c.ended.result _ _ _ c.ended.ensures c.in_ok-put_made.ensures ∙ ap (λ x. x ++ ended_text of) c.requires in
    let compared = made_text c.uncompared.result _ _ _ c.uncompared.ensures c.in_ok-put_made-2.ensures ∙ ap (λ x. x ++ uncompared_text of.uncompared.now) ended in
    let gone = c.in_ok-put_gone_section.ensures ∙ ap (λ x. x ++ gone_text of) compared in
    let unlooked = made_text c.unlooked.result _ _ _ c.unlooked.ensures c.in_ok-put_made-3.ensures ∙ ap (λ x. x ++ unlooked_text of.unlooked) gone in
    let moved = made_text c.root_inventories.result _ _ _ c.root_inventories.ensures c.in_ok-put_made-4.ensures ∙ ap (λ x. x ++ moved_text of.moved of.list.now) unlooked in
    put fs h l ∙ ap (λ x. x ++ new_text of fs ++ repaired_text of ++ back_text of) moved) c.put_changes.ensures
