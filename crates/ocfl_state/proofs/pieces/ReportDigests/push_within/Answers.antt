use Rattle.std.proofs.Common.{◌∙◌, arith}
use Rattle.ocfl_state.proofs.PieceLaws.{pushed_within, pushed_to_end}
use Rattle.ocfl_state.proofs.pieces.ReportDigests.push_within.Goals as goal

pub returns-then-ends : goal.returns-then-ends
returns-then-ends c = (
  c.turn.ensures.untailed ∙ c.feed.ensures.untailed,
  λ value k lines text carried long few.
      pushed_to_end value k lines text c.args.bytes.now c.args.self.now c.feed.new.self carried c.feed.ensures long few c.turn.new.self c.turn.ensures (omega (arith, c.if-ends.true, c.room.ensures)),
)

pub returns-else-ends : goal.returns-else-ends
returns-else-ends c = (
  c.feed.ensures.untailed,
  λ value k lines text carried long few.
      pushed_within value k lines text c.args.bytes.now c.args.self.now c.feed.new.self carried c.feed.ensures long few (omega (arith, c.if-ends.false, c.room.ensures, c.requires)),
)
