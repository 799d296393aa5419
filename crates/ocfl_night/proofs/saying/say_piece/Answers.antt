use Rattle.std.proofs.Common.{subst, arith}
use Rattle.std.specs.Io.KnownBytes.{Appends}
use Rattle.ocfl_night.proofs.{Heard.{gave_grows, grows_none}, Pieces.{piece_read}}
use Rattle.ocfl_night.proofs.saying.say_piece.Goals as goal

pub returns-in_err-count-clause-grew : goal.returns-in_err-count-clause-grew
returns-in_err-count-clause-grew g c = grows_none _

pub returns-then-count-eq0-clause-grew : goal.returns-then-count-eq0-clause-grew
returns-then-count-eq0-clause-grew g c = grows_none _

pub returns-in_err-give-clause-grew : goal.returns-in_err-give-clause-grew
returns-in_err-give-clause-grew g c = gave_grows _ _ c.give.ensures.grew c.give.ensures.kept c.in_err-give.ensures.failed.later

pub returns-clause-grew : goal.returns-clause-grew
returns-clause-grew g c = gave_grows _ _ c.give.ensures.grew c.give.ensures.kept (omega (arith, c.in_ok-give.ensures.failed))

pub returns-clause-said : goal.returns-clause-said
returns-clause-said g c = λ told.
    subst (Appends (g.O.Output.said c.args.out.now).given (g.O.Output.said c.give.new.self).given)
    (piece_read (g.S.StateFolder.seen c.args.folder.now).report c.read.new.buffer c.args.start c.in_ok-count.count c.min-given.result (omega (arith, c.min-given.ensures)) c.in_ok-count.ensures.bound (c.in_ok-count.ensures.value told).are)
    c.in_ok-give.ensures.given
