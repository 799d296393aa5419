use Rattle.std.specs.Prelude.{not, ◌||◌}
use Rattle.ocfl_closed.specs.{Files.{kept_of}, Unchanged.{is_before, is_unchanged}}
use Rattle.ocfl_closed.proofs.Ends.{compared_closed, later_bytes, unchanged_since}
use Rattle.ocfl_closed.proofs.finding.compare_with.Goals as goal

pub returns-in-Ok-clause-taken : goal.returns-in-Ok-clause-taken
returns-in-Ok-clause-taken g c = λ told.
    let D = g.D.ClosedDisk in
    let f = (D.state c.args.disk.now).files in
    let pair = c.args.pair.now in
    let later = later_bytes _ f (D.state c.open_checked.new.disk).files pair c.args.before (c.open_checked.ensures.still told).calm.files (c.in_ok-later.ensures.bytes told) in
    (compared_closed c.args.left.now ((kept_of f).reports c.args.before) ((kept_of f).reports pair.closed.cycle) (is_unchanged f c.args.before) (not (is_before pair c.args.before) || is_unchanged f pair.closed.cycle) _ _ _
    (c.in_ok-earlier.ensures.bytes told) later c.in-Ok.ensures.compared).compared

pub returns-in-Ok-clause-unchanged : goal.returns-in-Ok-clause-unchanged
returns-in-Ok-clause-unchanged g c = λ told.
    let D = g.D.ClosedDisk in
    let f = (D.state c.args.disk.now).files in
    let pair = c.args.pair.now in
    let later = later_bytes _ f (D.state c.open_checked.new.disk).files pair c.args.before (c.open_checked.ensures.still told).calm.files (c.in_ok-later.ensures.bytes told) in
    let closed = compared_closed c.args.left.now ((kept_of f).reports c.args.before) ((kept_of f).reports pair.closed.cycle) (is_unchanged f c.args.before) (not (is_before pair c.args.before) || is_unchanged f pair.closed.cycle) _ _ _
    (c.in_ok-earlier.ensures.bytes told) later c.in-Ok.ensures.compared in
    unchanged_since f pair c.args.before closed.is_before closed.is_now
