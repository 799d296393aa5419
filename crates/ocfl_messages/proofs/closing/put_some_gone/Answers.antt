use Rattle.std.proofs.{Common.{◌∙◌, ◌++◌, ap, length, take}, lemmas.Result.{on_ok_weaker}}
use Rattle.ocfl_messages.specs.{Closing.{list_command, gone_head, gone_lines, gone_room, most_of, not_shown}, Night.{more_text}}
use Rattle.ocfl_messages.proofs.{Closings.{section_whole}, Made.{made_text}}
use Rattle.ocfl_messages.proofs.closing.put_some_gone.Goals as goal

pub returns : goal.returns
returns c = on_ok_weaker c.put_more.result (λ put.
    let of = c.args.closing.now in
    let room = c.gone_room-room.ensures in
    let head = made_text c.gone_head_of.result _ _ _ c.gone_head_of.ensures c.in_ok-put_made.ensures in
    let most = c.most.ensures ∙ ap (λ r. most_of r of.gone_count) room in
    let shown = c.in_ok-put_gone_lines.ensures ∙ ap (λ n. c.put_made.new.text.items ++ gone_lines (take n of.gone.now)) most in
    let command = c.list_command.ensures in
    let rest = put ∙ (λ j. c.put_gone_lines.new.text.items ++ more_text (command j) of.list.now (not_shown (room j) of.gone_count (length of.gone.now))) in
    section_whole of.gone_count (gone_head of.gone_count of.cycle) (gone_lines (take (most_of (gone_room of) of.gone_count) of.gone.now)) list_command of.list.now (not_shown (gone_room of) of.gone_count (length of.gone.now)) c.args.text.now.items _ _ _ c.requires head shown rest) c.put_more.ensures
