use Rattle.std.proofs.Common.{sym}
use Rattle.ocfl_closed.specs.Files.{kept_of}
use Rattle.ocfl_closed.specs.Internal.Takes.{takes_none}
use Rattle.ocfl_closed.proofs.Findings.{none_listed}
use Rattle.ocfl_closed.proofs.finding.take_missing.Goals as goal

pub returns-in-None-clause-taken : goal.returns-in-None-clause-taken
returns-in-None-clause-taken g c = λ told.
    none_listed (kept_of (g.D.ClosedDisk.state c.args.disk.now).files) c.args.pair.now.closed c.in_ok-listed.field-0 _ _ (sym c.in-None.is) (c.in_ok-listed.ensures.value told) (takes_none _)
