use Rattle.std.proofs.Common.{ap}
use Rattle.ocfl_closed.specs.Internal.Checked.{if_told, left_of}
use Rattle.ocfl_closed.proofs.Opened.{begun, left_same}
use Rattle.ocfl_closed.proofs.opening.reader_of.Goals as goal

pub returns-in-Ok-clause-bytes : goal.returns-in-Ok-clause-bytes
returns-in-Ok-clause-bytes g c =
    let F = g.F.OpenReport in
    let first = c.new.result in
    begun c.in-Ok.reader first (λ r. if_told F.told (left_of r.check r.start (F.bytes r.file))) (if_told F.told (left_of c.args.check 0 (F.bytes c.args.report))) c.in-Ok.ensures.inner c.in-Ok.ensures.empty c.in-Ok.ensures.capacity
    (left_same F.told first.check c.args.check first.start 0 (F.bytes first.file) (F.bytes c.args.report) c.new.ensures.check c.new.ensures.start (ap F.bytes c.new.ensures.file))
