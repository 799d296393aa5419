use Rattle.std.proofs.lemmas.Result.{err_from_is_err_and}
use Rattle.ocfl_scrub.specs.Starting.{part_of}
use Rattle.ocfl_scrub.proofs.{KeptRuns.{begun_ahead, begun_ended, begun_lost}, RunLaws.{not_run}}
use Rattle.ocfl_scrub.proofs.running.meet.Goals as goal

pub returns-in_err-walk-in-None : goal.returns-in_err-walk-in-None
returns-in_err-walk-in-None g c told root over =
    let p = err_from_is_err_and c.from_residual.result c.from_residual.ensures.1 in
    rw (p.1, p.2) (c.in-None.is, λ old l. not_run c.args.further root (part_of c.args.part.now) _ _ old _ l _ (c.in_err-walk-in-None.ensures.told told root over))

pub returns-in_err-walk : goal.returns-in_err-walk
returns-in_err-walk g c told root over =
    let p = err_from_is_err_and c.from_residual-in_err-walk.result c.from_residual-in_err-walk.ensures.1 in
    rw (p.1, p.2) (c.in-None.is, begun_lost c.args.further root (part_of c.args.part.now) _ _ _ _ c.in_ok-walk-in-None.walk (c.in_ok-walk-in-None.ensures.told told root over) _ (λ tree. c.in_err-walk.ensures.told told root tree c.args.further))

pub returns-in-Some-next : goal.returns-in-Some-next
returns-in-Some-next g c told root over =
    rw c.in-None.is
    (begun_ahead c.args.further root (part_of c.args.part.now) _ _ _ _ c.in_ok-walk-in-None.walk (c.in_ok-walk-in-None.ensures.told told root over) _ _ (λ tree. c.in_ok-walk.ensures.told told root tree c.args.further) c.in-Some-next.is c.in_ok-walk.ensures.before)

pub returns-in-None-next : goal.returns-in-None-next
returns-in-None-next g c told root over =
    rw c.in-None.is
    (begun_ended c.args.further root (part_of c.args.part.now) _ _ _ _ c.in_ok-walk-in-None.walk (c.in_ok-walk-in-None.ensures.told told root over) c.in_ok-walk.walk _ (λ tree. c.in_ok-walk.ensures.told told root tree c.args.further) c.in-None-next.is)
