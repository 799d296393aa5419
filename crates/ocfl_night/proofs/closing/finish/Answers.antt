use Rattle.std.proofs.Common.{◌∙◌, ℕ, subst, sym}
use Rattle.ocfl_night.specs.Sound.{IsOneMore}
use Rattle.ocfl_night.proofs.Lasting.{closed_stands, open_stands}
use Rattle.ocfl_night.specs.Again.{GoesOn}
use Rattle.ocfl_night.proofs.{Again.{goes_self, ready_there}, Moments.{unmoved}}
use Rattle.ocfl_night.proofs.closing.finish.Goals as goal

pub returns-in_ok-close-in-Closing-clause-closed :
    goal.returns-in_ok-close-in-Closing-clause-closed
returns-in_ok-close-in-Closing-clause-closed g c = λ told rounds t r.
    let s = g.S.StateFolder.seen in
    subst (λ (n : ℕ). IsOneMore rounds n (s c.args.folder.now) (s c.close.new.folder)) (sym c.cycle_of-cycle.ensures) (c.in_ok-close-in-Closing.ensures.closed told rounds t r)

pub returns-in-Open-clause-said : goal.returns-in-Open-clause-said
returns-in-Open-clause-said g c = λ told rounds t r all. record { checkpoint = c.args.checkpoint; at = r.at; all = all }

pub returns-in_ok-close-in-Closing-clause-said : goal.returns-in_ok-close-in-Closing-clause-said
returns-in_ok-close-in-Closing-clause-said g c = λ told rounds t r all.
    let next = c.in_ok-close-in-Closing.ensures.ready told rounds t r in
    record { checkpoint = _; at = next.at; all = c.in_ok-close-in-Closing.ensures.all }

pub returns-in-Open-clause-finished : goal.returns-in-Open-clause-finished
returns-in-Open-clause-finished g c = λ told ends. let open_still = sym c.phase_of.ensures ∙ c.in-Open.is in absurd (cc (open_still, ends))

pub returns-in_ok-close-in-Closing-clause-finished : goal.returns-in_ok-close-in-Closing-clause-finished
returns-in_ok-close-in-Closing-clause-finished g c = λ told ends. c.in_ok-close-in-Closing.ensures.finished told

pub returns-in-Open-clause-stands : goal.returns-in-Open-clause-stands
returns-in-Open-clause-stands g c = λ told at. open_stands c.args.checkpoint (g.S.StateFolder.seen c.args.folder.now) (sym c.phase_of.ensures ∙ c.in-Open.is) at

pub returns-in_ok-close-in-Closing-clause-stands : goal.returns-in_ok-close-in-Closing-clause-stands
returns-in_ok-close-in-Closing-clause-stands g c = λ told at.
    closed_stands c.args.checkpoint (g.S.StateFolder.seen c.args.folder.now) (g.S.StateFolder.seen c.close.new.folder) (sym c.phase_of.ensures ∙ c.in-Closing.is) (c.in_ok-close-in-Closing.ensures.finished told)

pub returns-in-Open-clause-crash : goal.returns-in-Open-clause-crash
returns-in-Open-clause-crash g c = λ told rounds t r. unmoved (g.met.S.StateFolder.only_now told) (ready_there (GoesOn c.args.checkpoint) (goes_self c.args.checkpoint) r)
