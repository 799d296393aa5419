use Rattle.std.proofs.Common.{◌≡◌, ◌↔◌, ◌∙◌, List, ap, false, refl, sym, subst, take}
use Rattle.std.specs.Prelude.{IfSome, IsSome}
use Rattle.ocfl_state.specs.{Content.{Closed, Content, is_closed}, Pieces.{HasTail, summary_of}}
use Rattle.ocfl_state.specs.declared.checkpoint_parts.ReportMark.{ReportMark}
use Rattle.ocfl_state.specs.declared.checkpoint_parts.Phase.TheVariants.{Closing}
use Rattle.ocfl_night.specs.Steps.{BeginsAs}
use Rattle.ocfl_night.proofs.{Lost.{begins_as, left_settled, lost_settled, settled_shut}, Moments.{joined_moments, unchanged}}
use Rattle.ocfl_night.proofs.Sound.{ready_on, ready_sound}
use Rattle.ocfl_night.proofs.opening.take_up.Goals as goal

pub returns-then-not-branch-clause-ready : goal.returns-then-not-branch-clause-ready
returns-then-not-branch-clause-ready g c = λ told rounds t r. (refl, c.in_ok-settle.ensures.ready told rounds t r)

pub returns-in_err-find_lost-clause-any_moment : goal.returns-in_err-find_lost-clause-any_moment
returns-in_err-find_lost-clause-any_moment g c = λ told rounds t r.
    joined_moments (c.settle.ensures.any_moment told rounds t r) (unchanged (g.met.S.StateFolder.only_now told) (ready_sound (c.in_ok-settle.ensures.ready told rounds t r)) (c.find_lost.ensures.crash told))

pub returns-clause-any_moment : goal.returns-clause-any_moment
returns-clause-any_moment g c = λ told rounds t r.
    joined_moments (c.settle.ensures.any_moment told rounds t r) (unchanged (g.met.S.StateFolder.only_now told) (ready_sound (c.in_ok-settle.ensures.ready told rounds t r)) (c.find_lost.ensures.crash told))

pub returns-clause-ready : goal.returns-clause-ready
returns-clause-ready g c = λ told rounds t r.
    let s = g.S.StateFolder.seen in
    let a = c.settle.new.folder in
    let ready = c.in_ok-settle.ensures.ready told rounds t r in
    let open_still : c.args.checkpoint.now.phase ≡ Closing → is_closed (s a).closed c.args.checkpoint.now.cursor.cycle ≡ false = λ is. ap (λ (l : List Closed). is_closed l c.args.checkpoint.now.cursor.cycle) (settled_shut c.args.checkpoint.now (s c.args.folder.now) (c.in_ok-settle.ensures.settled told)) ∙ (c.in_ok-settle.ensures.there told).0 c.if-not-branch.false is in
    let there = begins_as rounds t c.args.checkpoint.now (s a) ready.stands open_still in (
      c.in_ok-find_lost.ensures.kept told (subst (λ (m : ReportMark). BeginsAs m (s a).report) (sym c.report_of.ensures) there),
      ready_on ready (c.find_lost.ensures.seen told) (c.find_lost.ensures.crash told),
    )

pub returns-then-not-branch-clause-lost : goal.returns-then-not-branch-clause-lost
returns-then-not-branch-clause-lost g c = λ told. ((λ is. absurd (cc is)), (λ lost. let there = (c.in_ok-settle.ensures.there told).1 lost.there in absurd (cc (there, c.if-not-branch.true))))

pub returns-clause-lost : goal.returns-clause-lost
returns-clause-lost g c = λ told.
    let s = g.S.StateFolder.seen in
    let k = c.args.checkpoint.now in
    lost_settled k (s c.args.folder.now) c.in_ok-find_lost.field-0 (c.in_ok-settle.ensures.settled told) ((c.in_ok-settle.ensures.there told).0 c.if-not-branch.false)
    (subst (λ (m : ReportMark). IsSome c.in_ok-find_lost.field-0 ↔ (HasTail m (s c.settle.new.folder).report → ⊥)) c.report_of.ensures (c.in_ok-find_lost.ensures.lost told))

pub returns-clause-left : goal.returns-clause-left
returns-clause-left g c = λ told.
    let s = g.S.StateFolder.seen in
    left_settled c.args.checkpoint.now (s c.args.folder.now) c.in_ok-find_lost.field-0 (c.in_ok-settle.ensures.settled told)
    (subst (λ (m : ReportMark). IfSome c.in_ok-find_lost.field-0 (λ there. there ≡ summary_of (take m.bytes (s c.settle.new.folder).report))) c.report_of.ensures (c.in_ok-find_lost.ensures.there told))

pub returns-then-not-branch-clause-closed : goal.returns-then-not-branch-clause-closed
returns-then-not-branch-clause-closed g c = λ told. settled_shut c.args.checkpoint.now (g.S.StateFolder.seen c.args.folder.now) (c.in_ok-settle.ensures.settled told)

pub returns-clause-closed : goal.returns-clause-closed
returns-clause-closed g c = λ told. ap (λ (x : Content). x.closed) (c.find_lost.ensures.seen told) ∙ settled_shut c.args.checkpoint.now (g.S.StateFolder.seen c.args.folder.now) (c.in_ok-settle.ensures.settled told)
