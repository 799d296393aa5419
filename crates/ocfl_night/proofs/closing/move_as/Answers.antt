use Rattle.std.proofs.{Common.{inl, subst, Bool}, lemmas.Result.{on_ok_weaker}}
use Rattle.ocfl_night.specs.Steps.{closes_whole, IsMoveDone}
use Rattle.ocfl_night.proofs.Compared.{done_of, fits_of, move_done_as, moved_as, not_whole}
use Rattle.ocfl_night.proofs.Whole.{complete_by}
use Rattle.ocfl_night.proofs.Moments.{only_same, weaker}
use Rattle.ocfl_night.proofs.closing.move_as.Goals as goal

pub returns-in_err-whole-clause-crash : goal.returns-in_err-whole-clause-crash
returns-in_err-whole-clause-crash g c = λ told either. weaker (λ d c same. inl same) (c.may_close_whole.ensures.crash told)

pub returns-clause-moved : goal.returns-clause-moved
returns-clause-moved g c = λ told either.
    let fits = fits_of c.whole_of.ensures c.report_of.ensures (c.in_ok-whole.ensures.value told) in
    on_ok_weaker c.move_report.result
    (λ done. move_done_as c.args.checkpoint.now c.in_ok-whole.whole _ _ either fits (done_of c.in_ok-whole.whole c.cycle_of.ensures (c.may_close_whole.ensures.seen told) done))
    (c.move_report.ensures.moved told)

pub returns-clause-changed : goal.returns-clause-changed
returns-clause-changed g c = λ told other.
    let k = c.args.checkpoint.now in
    let s = g.S.StateFolder.seen in
    let answer = c.in_ok-whole.whole in
    let fits = fits_of c.whole_of.ensures c.report_of.ensures (c.in_ok-whole.ensures.value told) in
    on_ok_weaker c.move_report.result
    (λ done. subst (λ (w : Bool). IsMoveDone k.cursor.cycle w (s c.args.folder.now) (s c.move_report.new.folder)) (not_whole answer (closes_whole k) fits other) (done_of answer c.cycle_of.ensures (c.may_close_whole.ensures.seen told) done))
    (c.move_report.ensures.moved told)

pub returns-clause-durable : goal.returns-clause-durable
returns-clause-durable g c = λ told.
    on_ok_weaker c.move_report.result
    (λ keeps only. keeps (only_same g.S.StateFolder.seen (c.may_close_whole.ensures.crash told) (c.may_close_whole.ensures.seen told) only))
    (c.move_report.ensures.durable told)

pub returns-clause-crash : goal.returns-clause-crash
returns-clause-crash g c = λ told either.
    let fits = fits_of c.whole_of.ensures c.report_of.ensures (c.in_ok-whole.ensures.value told) in
    moved_as c.args.checkpoint.now c.in_ok-whole.whole either fits c.cycle_of.ensures (c.may_close_whole.ensures.seen told) (c.may_close_whole.ensures.crash told) (c.move_report.ensures.crash told)

pub returns-clause-closed : goal.returns-clause-closed
returns-clause-closed g c = λ told.
    let fits = fits_of c.whole_of.ensures c.report_of.ensures (c.in_ok-whole.ensures.value told) in
    on_ok_weaker c.move_report.result
    (λ done. record { whole = c.in_ok-whole.whole; exactly = complete_by c.args.checkpoint.now fits; moved = done_of c.in_ok-whole.whole c.cycle_of.ensures (c.may_close_whole.ensures.seen told) done })
    (c.move_report.ensures.moved told)
