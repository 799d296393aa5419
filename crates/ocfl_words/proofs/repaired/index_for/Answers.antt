use Rattle.std.proofs.Common.{◌≤◌, ◌<◌, ◌∙◌, length, sym, arith}
use Rattle.ocfl_report.specs.Line.{line_of}
use Rattle.ocfl_words.proofs.Shown.{comes_here, comes_last, comes_later}
use Rattle.ocfl_words.proofs.repaired.index_for.Goals as goal

pub returns-then-is_before-clause-index : goal.returns-then-is_before-clause-index
returns-then-is_before-clause-index c =
    let within : c.loop-index.index < length c.args.shown.now = omega arith in
    comes_here (line_of c.args.line.now) c.args.shown.now c.loop-index.index c.index-shown-index.result within c.index-shown-index.is
    (sym c.is_before.ensures ∙ c.if-is_before.true) c.loop-index.invariant

pub loop-index-preserved : goal.loop-index-preserved
loop-index-preserved c =
    let within : c.loop-index.index < length c.args.shown.now = omega arith in
    comes_later (line_of c.args.line.now) c.args.shown.now c.loop-index.index c.index-shown-index.result within c.index-shown-index.is
    (sym c.is_before.ensures ∙ c.if-is_before.false) c.loop-index.invariant

pub returns-clause-index : goal.returns-clause-index
returns-clause-index c =
    let past : length c.args.shown.now ≤ c.loop-index.index = omega arith in
    comes_last (line_of c.args.line.now) c.args.shown.now c.loop-index.index _ past (omega arith) c.loop-index.invariant
