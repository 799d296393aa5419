use Rattle.std.proofs.Common.{rules, ◌≡◌, ◌≤◌, ◌<◌, false, length, sym, arith}
use Rattle.ocfl_report.specs.Line.{line_of}
use Rattle.ocfl_tree.specs.Place.{place_eq}
use Rattle.ocfl_messages.specs.Known.{names}
use Rattle.ocfl_messages.proofs.Knowns.{others_all, others_end, others_more}
use Rattle.ocfl_messages.proofs.known.is_named_at.Goals as goal

pub returns-then-not-is_place : goal.returns-then-not-is_place
returns-then-not-is_place c =
    let x = c.index-entries-index.result in
    let from : c.first_at-index.result ≤ c.loop-index.index = omega arith in
    let within : c.loop-index.index < length c.args.entries.now = omega arith in
    let apart : place_eq x.line.place c.args.place.now ≡ false = search rules in
    sym (others_end c.args.place.now (line_of c.args.line.now) c.args.entries.now c.first_at-index.result c.loop-index.index x c.requires
    c.first_at-index.ensures.found from within c.index-entries-index.is apart c.loop-index.invariant)

pub loop-index-preserved : goal.loop-index-preserved
loop-index-preserved c =
    let x = c.index-entries-index-in-loop-index.result in
    let within : c.loop-index.index < length c.args.entries.now = omega arith in
    let apart : names (line_of c.args.line.now) x ≡ false = search rules in
    others_more c.args.place.now (line_of c.args.line.now) c.args.entries.now c.loop-index.index x within c.index-entries-index-in-loop-index.is apart c.loop-index.invariant

pub returns : goal.returns
returns c =
    let all : length c.args.entries.now ≤ c.loop-index.index = omega arith in
    sym (others_all c.args.place.now (line_of c.args.line.now) c.args.entries.now c.loop-index.index all c.loop-index.invariant)
