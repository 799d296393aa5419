use Rattle.std.proofs.Common.{◌<◌, ap, length, arith}
use Rattle.ocfl_messages.specs.declared.finding.Finding.{Finding as MadeFinding}
use Rattle.ocfl_speaking.proofs.Reasoned.{done_more, length_same, rest_more, with_line}
use Rattle.ocfl_speaking.proofs.speaking.put_reasons_of.Goals as goal

pub loop-index-preserved : goal.loop-index-preserved
loop-index-preserved c =
    let inv = c.loop-index.invariant in
    let xs = c.loop-index.findings.items in
    let ys = c.args.findings.now.items in
    let i = c.loop-index.index in
    let old = c.index_mut.result.now in
    let new : MadeFinding = record { line = c.put_reason.new.line; object = old.object; files = old.files } in
    let l : i < length xs = omega (arith, inv.same) in
    let is = c.index_mut.ensures.value in
    let now = ap (with_line old.object old.files) c.in_ok-put_reason.ensures in
    record {
      done = done_more c.args.reasons.now xs ys i old new l is now inv.done inv.rest inv.same;
      rest = rest_more c.args.reasons.now xs ys i old new l is now inv.done inv.rest inv.same;
      same = length_same c.args.reasons.now xs ys i old new l is now inv.done inv.rest inv.same;
    }
