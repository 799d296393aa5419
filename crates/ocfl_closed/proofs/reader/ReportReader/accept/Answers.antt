use Rattle.std.proofs.{Common.{ap, sym, refl, arith, length}, lemmas.List.{length-take-le}}
use Rattle.ocfl_closed.proofs.Checking.{ended, none_within, went_on}
use Rattle.ocfl_closed.proofs.reader.ReportReader.accept.Goals as goal

pub take-requires : goal.take-requires
take-requires g c = record { next = λ told. (c.requires.read told).are }

pub returns-then-count-eq0-clause-bound : goal.returns-then-count-eq0-clause-bound
returns-then-count-eq0-clause-bound g c = none_within c.end.result c.args.buffer.now c.end.ensures.none

pub returns-then-count-eq0-clause-bytes : goal.returns-then-count-eq0-clause-bytes
returns-then-count-eq0-clause-bytes g c =
    let F = g.F.OpenReport in
    let me = c.args.self.now in
    let after = c.end.new.self in
    ended F.told c.end.result me.check after.check me.start after.start (F.bytes me.file) (F.bytes after.file) c.args.buffer.now c.args.count (length c.args.buffer.now)
    c.end.ensures.check c.end.ensures.start (ap F.bytes c.end.ensures.file) c.end.ensures.none c.if-count-eq0.true refl c.requires.read c.end.ensures.met

pub returns-clause-bound : goal.returns-clause-bound
returns-clause-bound g c = (c.requires.within, sym (length-take-le c.args.count c.args.buffer.now c.requires.within))

pub returns-clause-bytes : goal.returns-clause-bytes
returns-clause-bytes g c =
    went_on g.F.OpenReport.told _ _ c.args.count c.args.buffer.now c.take.ensures.bytes (λ z. let some = c.if-count-eq0.false in omega (arith, z, some))
