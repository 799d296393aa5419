use Rattle.std.proofs.Common.{◌≤◌, ◌∙◌, length, sym, arith}
use Rattle.ocfl_report.specs.Line.{line_of}
use Rattle.ocfl_messages.proofs.Knowns.{known_along, known_at}
use Rattle.ocfl_messages.proofs.known.look_up.Goals as goal

pub returns-then-is_named_at : goal.returns-then-is_named_at
returns-then-is_named_at c = sym (known_at _ (line_of c.args.line.now) c.args.entries.now (sym c.is_named_at.ensures ∙ c.if-is_named_at.true))

pub returns : goal.returns
returns c =
    let all : length c.args.line.now.place ≤ c.loop-names.names = omega (arith, c.depth-names-end.ensures) in
    c.is_named_at-2.ensures ∙ known_along (line_of c.args.line.now) c.args.entries.now (λ m k. c.loop-names.invariant m (omega (arith, all, k)))
