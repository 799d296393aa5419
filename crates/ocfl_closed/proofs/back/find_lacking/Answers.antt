use Rattle.ocfl_closed.specs.Files.{kept_of}
use Rattle.ocfl_closed.proofs.Backing.{lacking_of}
use Rattle.ocfl_closed.proofs.back.find_lacking.Goals as goal

pub returns-in-Ok-clause-lacking : goal.returns-in-Ok-clause-lacking
returns-in-Ok-clause-lacking g c = λ told.
    lacking_of c.args.left.now c.args.objects.items _ ((kept_of (g.D.ClosedDisk.state c.args.disk.now).files).reports c.args.cycle) c.new.result.items c.find_expected.new.taker.places.items
    (c.in_ok-report.ensures.bytes told) c.new.ensures.items c.in-Ok.ensures.searched
