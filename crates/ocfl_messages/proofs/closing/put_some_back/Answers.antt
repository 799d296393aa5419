use Rattle.std.proofs.{Common.{◌∙◌, ◌++◌, ap, length, take}, lemmas.Result.{on_ok_weaker}}
use Rattle.ocfl_messages.specs.{Closing.{back_head, back_lines, back_room, changed_command, most_of, not_shown}, Night.{more_text}}
use Rattle.ocfl_messages.proofs.{Closings.{section_whole}, Made.{made_text}}
use Rattle.ocfl_messages.proofs.closing.put_some_back.Goals as goal

pub returns : goal.returns
returns c = on_ok_weaker c.put_more.result (λ put.
    let of = c.args.closing.now in
    let room = c.back_room-room.ensures in
    let head = made_text c.back_head_of.result _ _ _ c.back_head_of.ensures c.in_ok-put_made.ensures in
    let most = c.most.ensures ∙ ap (λ r. most_of r of.back_count) room in
    let shown = c.in_ok-put_back_lines.ensures ∙ ap (λ n. c.put_made.new.text.items ++ back_lines (take n of.back.now)) most in
    let command = c.as_str.ensures.value ∙ c.in_ok-command.ensures in
    let rest = put ∙ (λ j. c.put_back_lines.new.text.items ++ more_text (command j) of.report.now (not_shown (room j) of.back_count (length of.back.now))) in
    section_whole of.back_count (back_head of.back_count of.cycle) (back_lines (take (most_of (back_room of) of.back_count) of.back.now)) (changed_command of) of.report.now (not_shown (back_room of) of.back_count (length of.back.now)) c.args.text.now.items _ _ _ c.requires head shown rest) c.put_more.ensures
