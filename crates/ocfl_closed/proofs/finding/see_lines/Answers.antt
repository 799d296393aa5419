use Rattle.std.proofs.Common.{refl}
use Rattle.ocfl_closed.specs.Files.{kept_of}
use Rattle.ocfl_closed.proofs.Findings.{lines_of}
use Rattle.ocfl_closed.proofs.finding.see_lines.Goals as goal

pub returns-clause-taken : goal.returns-clause-taken
returns-clause-taken g c = λ told.
    let within = c.see_all.new.taker in
    lines_of (kept_of (g.D.ClosedDisk.state c.args.disk.now).files) c.args.pair.now.closed c.new.result.items within.places.items c.args.pair.now.closed.left
    (λ seen. g.T.TakeChange.takes c.args.taker seen within.taker) refl c.new.ensures.items (c.in_ok-see_all.ensures.taken told)
