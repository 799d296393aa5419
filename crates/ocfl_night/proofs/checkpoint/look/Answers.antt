use Rattle.std.proofs.lemmas.Result.{err_from_is_err_and}
use Rattle.std.specs.Prelude.{IsTrue}
use Rattle.ocfl_night.specs.Stopping.{ForLook}
use Rattle.ocfl_night.proofs.Reasons.{unread_at}
use Rattle.ocfl_night.proofs.checkpoint.look.Goals as goal

pub returns-in_err-read_text-in-Some-clause-stop : goal.returns-in_err-read_text-in-Some-clause-stop
returns-in_err-read_text-in-Some-clause-stop g c =
    let r = c.from_residual-in_err-read_text-in-Some.result in
    let p = err_from_is_err_and r c.from_residual-in_err-read_text-in-Some.ensures.1 in
    unread_at (IsTrue g.S.StateFolder.told) (ForLook (g.S.StateFolder.seen c.args.folder.now)) _ _ r c.in_err-read_text-in-Some.field-0.0 (cc (p.1, p.2)) c.in_err-read_text-in-Some.ensures.stop
