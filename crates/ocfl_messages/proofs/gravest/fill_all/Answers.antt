use Rattle.std.proofs.Common.{◌<◌, length, arith}
use Rattle.ocfl_messages.proofs.Filling.{done_more, length_same, rest_more}
use Rattle.ocfl_messages.proofs.gravest.fill_all.Goals as goal

pub loop-index-preserved : goal.loop-index-preserved
loop-index-preserved c =
    let inv = c.loop-index.invariant in
    let xs = c.loop-index.findings.items in
    let ys = c.args.findings.now.items in
    let i = c.loop-index.index in
    let old = c.index_mut.result.now in
    let new = c.fill.new.self in
    let l : i < length xs = omega (arith, inv.same) in
    let is = c.index_mut.ensures.value in
    record {
      done = done_more c.args.files xs ys i old new l is c.fill.ensures inv.done inv.rest inv.same;
      rest = rest_more c.args.files xs ys i old new l is c.fill.ensures inv.done inv.rest inv.same;
      same = length_same c.args.files xs ys i old new l is c.fill.ensures inv.done inv.rest inv.same;
    }
