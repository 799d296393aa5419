use Rattle.std.proofs.Common.{◌≡◌, ◌∙◌, append-nil, true, subst}
use Rattle.ocfl_closed.specs.{Files.{kept_of}, Unchanged.{is_unchanged}}
use Rattle.ocfl_closed.proofs.Findings.{since_whole_within}
use Rattle.ocfl_closed.proofs.finding.compare_whole.Goals as goal

pub returns-clause-taken : goal.returns-clause-taken
returns-clause-taken g c = λ told.
    let pair = c.args.pair.now in
    let within = c.compare_with.new.taker in
    since_whole_within (kept_of (g.D.ClosedDisk.state c.args.disk.now).files) pair.closed c.args.whole.now pair.again.items c.in-Ok.places.items within.places.items c.left-left.result.now c.cycle.result
    (λ seen. g.T.TakeChange.takes c.args.taker seen within.taker) c.left-left.ensures c.cycle.ensures (c.in-Ok.ensures ∙ append-nil c.as_slice.result.now ∙ c.as_slice.ensures.value)
    (c.in_ok-compare_with.ensures.taken told)

pub returns-clause-unchanged : goal.returns-clause-unchanged
returns-clause-unchanged g c = λ told.
    subst (λ n. is_unchanged (g.D.ClosedDisk.state c.args.disk.now).files n ≡ true) c.cycle.ensures (c.in_ok-compare_with.ensures.unchanged told).0
