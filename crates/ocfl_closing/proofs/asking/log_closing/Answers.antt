use Rattle.ocfl_closing.proofs.Logged.{logged_so}
use Rattle.ocfl_closing.proofs.asking.log_closing.Goals as goal

pub returns-clause-logged : goal.returns-clause-logged
returns-clause-logged g c = λ told. let room = g.C.ClosingCalls.room in
    logged_so c.add_to_log.result c.seconds-time.result c.args.began c.args.pair.now c.args.account.now c.args.list.now _ c.as_bytes.result.now (room c.args.calls.now).log (room c.add_to_log.new.self).log
    c.in_ok-line.ensures c.as_bytes.ensures.value (c.add_to_log.ensures.logged told)
