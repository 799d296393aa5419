use Rattle.std.proofs.Common.{◌++◌, map}
use Rattle.ocfl_messages.specs.{Finding.{ended_after, section_after}}
use Rattle.ocfl_words.specs.Held.{lines_of, marked_of}
use Rattle.ocfl_words.proofs.Marking.{all_more, gathered_more}
use Rattle.ocfl_words.proofs.marked.gather.Goals as goal

pub loop-line-preserved : goal.loop-line-preserved
loop-line-preserved c = λ says fs s all h.
    let ws = c.loop-line.yielded in
    let w = c.in-Some.field-0 in
    let ls = lines_of (map marked_of ws) in
    let both = all_more says ws w all in
    gathered_more says c.take.new.self fs s ws w
    (c.in_ok-take.ensures says (fs ++ ended_after s ls) (section_after s ls) both.1 (c.loop-line.invariant says fs s both.0 h))
