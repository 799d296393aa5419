use Rattle.std.proofs.Common.{[], None, refl, sym, subst}
use Rattle.ocfl_compare.specs.{CompareStop.{StopsRightly}, Internal.Turns.{IfBothSome}}
use Rattle.ocfl_compare.proofs.SoFar.{before_stops, now_stops, nothing_read}
use Rattle.ocfl_compare.proofs.comparing.begin.Goals as goal

pub returns-in-Err-clause-refused : goal.returns-in-Err-clause-refused
returns-in-Err-clause-refused g c =
    let b = g.R.Read.remaining c.args.before.now in
    let n = g.S.Read.remaining c.args.now.now in
    subst (λ s. IfBothSome b n (λ k l. StopsRightly k l s)) (sym c.of_before.ensures)
    (before_stops b n c.in-Err.stop (c.in-Err.ensures.refused b [] (λ e. refl) (nothing_read b _ _ c.unread.ensures.next c.unread.ensures.count)))

pub returns-in-Err-read_next-clause-refused : goal.returns-in-Err-read_next-clause-refused
returns-in-Err-read_next-clause-refused g c =
    let b = g.R.Read.remaining c.args.before.now in
    let n = g.S.Read.remaining c.args.now.now in
    subst (λ s. IfBothSome b n (λ k l. StopsRightly k l s)) (sym c.of_now.ensures)
    (now_stops b n c.in-Err-read_next.stop (c.in-Err-read_next.ensures.refused n [] (λ e. refl) (nothing_read n _ _ c.unread-2.ensures.next c.unread-2.ensures.count)))

pub returns-clause-before : goal.returns-clause-before
returns-clause-before g c =
    let b = g.R.Read.remaining c.args.before.now in
    rw c.unread.ensures.next at c.in-Ok.ensures.ok b [] (λ e. refl) (nothing_read b None _ refl c.unread.ensures.count)

pub returns-clause-now : goal.returns-clause-now
returns-clause-now g c =
    let n = g.S.Read.remaining c.args.now.now in
    rw c.unread-2.ensures.next at c.in-Ok-read_next.ensures.ok n [] (λ e. refl) (nothing_read n None _ refl c.unread-2.ensures.count)
