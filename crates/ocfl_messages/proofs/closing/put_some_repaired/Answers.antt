use Rattle.std.proofs.{Common.{◌∙◌, ◌++◌, ap, length, map, take}, lemmas.Result.{on_ok_weaker}}
use Rattle.ocfl_report.specs.Line.{line_of}
use Rattle.ocfl_messages.specs.{Closing.{changed_command, repaired_head, repaired_lines, repaired_room, most_of, not_shown}, Night.{more_text}}
use Rattle.ocfl_messages.proofs.{Closings.{section_whole}, Made.{made_text}}
use Rattle.ocfl_messages.proofs.closing.put_some_repaired.Goals as goal

pub returns : goal.returns
returns c = on_ok_weaker c.put_more.result (λ put.
    let of = c.args.closing.now in
    let room = c.repaired_room-room.ensures in
    let head = made_text c.repaired_head_of.result _ _ _ c.repaired_head_of.ensures c.in_ok-put_made.ensures in
    let most = c.most.ensures ∙ ap (λ r. most_of r of.repaired_count) room in
    let shown = c.in_ok-put_most_repaired.ensures ∙ ap (λ n. c.put_made.new.text.items ++ repaired_lines (map line_of (take n of.repaired.now))) most in
    let command = c.as_str.ensures.value ∙ c.in_ok-command.ensures in
    let rest = put ∙ (λ j. c.put_most_repaired.new.text.items ++ more_text (command j) of.report.now (not_shown (room j) of.repaired_count (length of.repaired.now))) in
    section_whole of.repaired_count (repaired_head of.repaired_count of.cycle of.before) (repaired_lines (map line_of (take (most_of (repaired_room of) of.repaired_count) of.repaired.now))) (changed_command of) of.report.now (not_shown (repaired_room of) of.repaired_count (length of.repaired.now)) c.args.text.now.items _ _ _ c.requires head shown rest) c.put_more.ensures
