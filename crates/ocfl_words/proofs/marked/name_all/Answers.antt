use Rattle.std.proofs.Common.{◌<◌, ◌∙◌, length, ap, sym, arith}
use Rattle.std.proofs.lemmas.List.{length-set}
use Rattle.ocfl_report.specs.Line.{line_of}
use Rattle.ocfl_words.specs.Held.{marked_by, marked_of}
use Rattle.ocfl_words.proofs.Marking.{done_more, rest_more}
use Rattle.ocfl_words.proofs.marked.name_all.Goals as goal

pub loop-waiting-preserved : goal.loop-waiting-preserved
loop-waiting-preserved c =
    let inv = c.loop-waiting.invariant in
    let xs = c.loop-waiting.lines in
    let ys = c.args.lines.now in
    let i = c.loop-waiting.waiting-index in
    let old = c.waiting-item.result in
    let new = c.name.new.self in
    let g = marked_by (line_of c.args.line.now) in
    let l : i < length xs = omega (arith, inv.same) in
    let is = c.name.ensures ∙ ap (λ w. g (marked_of w)) (sym c.waiting-item.is) in
    record {
      done = done_more marked_of g xs ys i old new l c.waiting-item.is is inv.done inv.rest inv.same;
      rest = rest_more marked_of g xs ys i old new l c.waiting-item.is is inv.done inv.rest inv.same;
      same = length-set xs i new ∙ inv.same;
    }
