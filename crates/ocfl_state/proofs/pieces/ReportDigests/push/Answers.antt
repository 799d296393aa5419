use Rattle.std.proofs.Common.{arith, length-append}
use Rattle.ocfl_state.specs.Pieces.{no_pieces}
use Rattle.ocfl_state.proofs.pieces.ReportDigests.push.Goals as goal

pub returns : goal.returns
returns c = λ report carried short.
    let pushed = c.push_from.ensures.1 no_pieces 0 0 report carried.0 (omega (arith, short)) (omega (arith, short)) in
    (pushed, omega (arith, carried.1, c.push_from.ensures.0, carried.0.bytes, pushed.bytes, length-append report c.args.bytes.now))
