use Rattle.std.proofs.{Common.{◌∙◌, ap, refl, sym}, lemmas.Result.{err_from_is_err_and}}
use Rattle.std.specs.Prelude.{IsTrue}
use Rattle.ocfl_state.specs.Checkpoint.{Checkpoint}
use Rattle.ocfl_night.specs.Beginning.{position}
use Rattle.ocfl_night.specs.{Site.{IsOfSite}, Stopping.{ForNight, ForOpen, IsToOpen, TellsKept, course}}
use Rattle.ocfl_night.specs.declared.opening.Opened.{Opened}
use Rattle.ocfl_night.proofs.Beginnings.{begins_so}
use Rattle.ocfl_night.proofs.Moments.{joined_moments, leaves_weaker}
use Rattle.ocfl_night.proofs.Heard.{found_heard, grows_none, is_err, since_found}
use Rattle.ocfl_night.proofs.Whole.{said_whole}
use Rattle.ocfl_night.proofs.{Foreigners.{of_site}, Reasons.{caught_reason, opening_reason, opens_at, opens_so, put_first, put_self}}
use Rattle.ocfl_night.proofs.nights.catch_up.Goals as goal

pub returns-in_err-opened-clause-heard : goal.returns-in_err-opened-clause-heard
returns-in_err-opened-clause-heard g c = λ told rounds checks kept. leaves_weaker (λ x h. found_heard h) (c.open.ensures.any_moment told rounds checks kept)

pub returns-in_err-speak-clause-heard : goal.returns-in_err-speak-clause-heard
returns-in_err-speak-clause-heard g c = λ told rounds checks kept.
    let r = c.in_ok-opened.ensures.ready told rounds checks kept in
    joined_moments (leaves_weaker (λ x h. found_heard h) (c.open.ensures.any_moment told rounds checks kept)) (leaves_weaker (λ x h. since_found r h) (c.speak.ensures.heard told rounds (kept r.from r.was).0 r.ready))

pub returns-clause-heard : goal.returns-clause-heard
returns-clause-heard g c = λ told rounds checks kept.
    let r = c.in_ok-opened.ensures.ready told rounds checks kept in
    joined_moments (leaves_weaker (λ x h. found_heard h) (c.open.ensures.any_moment told rounds checks kept)) (leaves_weaker (λ x h. since_found r h) (c.speak.ensures.heard told rounds (kept r.from r.was).0 r.ready))

pub returns-clause-ready : goal.returns-clause-ready
returns-clause-ready g c = λ told rounds checks kept.
    let r = c.in_ok-opened.ensures.ready told rounds checks kept in
    record { from = r.from; was = r.was; heard = c.in_ok-speak.ensures.ready told rounds (kept r.from r.was).0 r.ready }

pub returns-clause-all : goal.returns-clause-all
returns-clause-all g c =
    let is = c.in_ok-speak.ensures.all in
    ap (λ (x : Checkpoint). x.said) is ∙ sym (ap (λ (x : Checkpoint). x.report.bytes) is)

pub returns-in_err-opened-clause-foreign : goal.returns-in_err-opened-clause-foreign
returns-in_err-opened-clause-foreign g c = λ told k at foreign. (is_err _ c.from_residual.result c.from_residual.ensures.1, (c.open.ensures.foreign told k at foreign).1)

pub returns-in_err-speak-clause-foreign : goal.returns-in_err-speak-clause-foreign
returns-in_err-speak-clause-foreign g c = λ told k at foreign. absurd (cc (c.in_ok-opened.ensures.foreign told k at foreign).0)

pub returns-clause-foreign : goal.returns-clause-foreign
returns-clause-foreign g c = λ told k at foreign. absurd (cc (c.in_ok-opened.ensures.foreign told k at foreign).0)

pub returns-in_err-opened-clause-rightly : goal.returns-in_err-opened-clause-rightly
returns-in_err-opened-clause-rightly g c = λ told why is.
    let p = err_from_is_err_and c.from_residual.result c.from_residual.ensures.1 in
    c.in_err-opened.ensures.rightly told why (cc (p.1, p.2, is))

pub returns-in_err-opened-clause-older : goal.returns-in_err-opened-clause-older
returns-in_err-opened-clause-older g c = λ told k at n below older. (is_err _ c.from_residual.result c.from_residual.ensures.1, (c.open.ensures.older told k at n below older).1)

pub returns-in_err-speak-clause-older : goal.returns-in_err-speak-clause-older
returns-in_err-speak-clause-older g c = λ told k at n below older. absurd (cc (c.in_ok-opened.ensures.older told k at n below older).0)

pub returns-clause-older : goal.returns-clause-older
returns-clause-older g c = λ told k at n below older. absurd (cc (c.in_ok-opened.ensures.older told k at n below older).0)

pub returns-in_err-opened-clause-lost_only : goal.returns-in_err-opened-clause-lost_only
returns-in_err-opened-clause-lost_only g c = λ told not_yet is. absurd (cc (not_yet, is))

pub returns-in_err-speak-clause-lost_only : goal.returns-in_err-speak-clause-lost_only
returns-in_err-speak-clause-lost_only g c = λ told not_yet is. c.in_ok-opened.ensures.lost_only told is

pub returns-clause-lost_only : goal.returns-clause-lost_only
returns-clause-lost_only g c = λ told not_yet is. c.in_ok-opened.ensures.lost_only told is

pub returns-clause-whole : goal.returns-clause-whole
returns-clause-whole g c = λ told. said_whole c.in_ok-opened.opened.checkpoint c.in_ok-speak.ensures.all (c.in_ok-opened.ensures.whole told)

pub returns-clause-begins : goal.returns-clause-begins
returns-clause-begins g c = λ told. begins_so (ap position c.in_ok-speak.ensures.all) (c.in_ok-opened.ensures.begins told)

pub returns-in_err-opened-clause-grew : goal.returns-in_err-opened-clause-grew
returns-in_err-opened-clause-grew g c = grows_none _

pub returns-clause-own : goal.returns-clause-own
returns-clause-own g c = of_site (put_self c.in_ok-opened.opened.checkpoint c.in_ok-speak.ensures.all).alike c.in_ok-opened.ensures.own

pub returns-in_err-opened-clause-stop : goal.returns-in_err-opened-clause-stop
returns-in_err-opened-clause-stop g c =
    let r = c.from_residual.result in
    let p = err_from_is_err_and r c.from_residual.ensures.1 in
    let told = IsTrue g.S.StateFolder.told in
    let here = g.S.StateFolder.seen c.args.folder.now in
    let kept = TellsKept g.S.StateFolder c.args.site.now.further c.args.folder.now in
    let now = course c.args.site.now.further c.args.plan.now.create here 0 (g.O.Output.said c.args.out.now) (g.O.Output.said c.args.out.now) in
    let of = IsOfSite c.args.site.now c.args.identity.now in
    let to_open = IsToOpen told c.args.site.now c.args.identity.now c.args.plan.now.create here in
    opens_so told kept (ForOpen to_open here) (ForNight (λ _. ⊥) of now) _ (g.S.StateFolder.faults c.args.folder.now) _ Opened r c.in_err-opened.field-0.0 (cc (p.1, p.2))
    (λ why. opening_reason told kept (λ _. ⊥) of to_open now _ _ why (λ l put. (put.own, λ given. (l, (put.begins given.0, put_first l)))) (λ given. given.0)) c.in_err-opened.ensures.stop

pub returns-in_err-speak-clause-stop : goal.returns-in_err-speak-clause-stop
returns-in_err-speak-clause-stop g c =
    let r = c.from_residual-in_err-speak.result in
    let p = err_from_is_err_and r c.from_residual-in_err-speak.ensures.1 in
    let why = c.in_err-speak.field-0.0 in
    let now = course c.args.site.now.further c.args.plan.now.create (g.S.StateFolder.seen c.args.folder.now) 0 (g.O.Output.said c.args.out.now) (g.O.Output.said c.speak.new.out) in
    let kept = TellsKept g.S.StateFolder c.args.site.now.further c.args.folder.now in
    let of = IsOfSite c.args.site.now c.args.identity.now in
    opens_at kept (ForNight (λ _. ⊥) of now) _ _ r why (cc (p.1, p.2))
    (caught_reason (IsTrue g.S.StateFolder.told) kept (λ _. ⊥) of now c.in_ok-opened.opened.checkpoint (g.S.StateFolder.seen c.open.new.folder) (g.O.Output.said c.args.out.now) (g.O.Output.said c.speak.new.out) _ (g.S.StateFolder.faults c.open.new.folder) _ why
    (of_site (put_self c.in_ok-opened.opened.checkpoint refl).alike c.in_ok-opened.ensures.own) (λ given. c.in_ok-opened.ensures.begins given.0)
    (λ given. given.0) (λ given. c.in_ok-opened.ensures.stop given.0) (λ given. (given.1.0, (_, (c.in_ok-opened.ensures.ready given.0 given.1.0 given.1.1.0 given.1.1.1).ready.stands))) (λ failed. failed) c.in_err-speak.ensures.stop)
