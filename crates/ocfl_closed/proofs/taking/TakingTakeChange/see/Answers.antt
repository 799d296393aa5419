use Rattle.std.proofs.Common.{ap, map, refl}
use Rattle.ocfl_report.specs.Line.{line_of}
use Rattle.ocfl_closed.specs.Internal.Takes.{took_line}
use Rattle.ocfl_closed.proofs.taking.TakingTakeChange.see.Goals as goal

pub returns : goal.returns
returns g c = took_line _ _ c.args.side (line_of c.args.line.now) c.in_ok-see.ensures.kept refl c.see.ensures.known (ap (map line_of) c.see.ensures.said) c.see.ensures.noting c.in_ok-see.ensures.lines c.see.ensures.since c.see.ensures.whole refl
