use Rattle.std.proofs.Common.{◌∙◌, ap, refl, sym}
use Rattle.ocfl_scrub.specs.Starting.{part_of}
use Rattle.ocfl_scrub.specs.declared.checking.AuditStatus.TheVariants as end
use Rattle.ocfl_scrub.proofs.AuditLaws.{unstarted, nothing_unread}
use Rattle.ocfl_scrub.proofs.AuditTurns.{nothing_taken, audit_ended, audit_took, audit_missed, audit_lost}
use Rattle.ocfl_scrub.proofs.{PassLaws.{lines_then}, TakeLaws.{nothing_written}}
use Rattle.ocfl_scrub.proofs.auditing.audit_part.Goals.{in-Ok-next_within+in_default, in-Err-next_within, in-Ok-next_within+in-Some+in-Err-take_item}
use Rattle.ocfl_scrub.proofs.auditing.audit_part.Goals as goal

pub returns-in-Err-clause-told : goal.returns-in-Err-clause-told
returns-in-Err-clause-told g c told root over short =
    let e = c.audit_end.ensures in
    rw (e.last, e.found, e.end) (unstarted c.args.further root (part_of c.args.part.now) _ _ _ _ (c.in-Err.ensures.told told root over))

pub loop-step-init : goal.loop-step-init
loop-step-init g c = record {
  lines = nothing_written _;
  silent = λ e. refl;
  none_found = λ e. refl;
  told = λ told root over short. nothing_taken c.args.further root (part_of c.args.part.now) _ _ _ _ (c.in-Ok.ensures.told told root over);
}

pub loop-step-preserved : goal.loop-step-preserved
loop-step-preserved g c =
    let i = c.loop-step.invariant in
    let given = c.in-Ok-next_within in
    let took = c.in-Ok-take_item.ensures in
    record {
      lines = lines_then _ _ _ _ _ _ i.lines took.lines c.either-found.ensures;
      silent = λ e. cc;
      none_found = λ e. cc;
      told = λ told root over short.
          audit_took (part_of c.args.part.now) (i.told told root over short) _ _ (λ tree. given.ensures.told told root tree c.args.further) c.in-Some.is given.ensures.before _ _
          _ _ _ _ took.place c.either-found.ensures (λ u q. took.told c.args.further told root u short q);
    }

pub returns-clause-any_store : goal.returns-clause-any_store
returns-clause-any_store g c =
    let i = c.loop-step.invariant in
    let e = c.audit_end-2.ensures in
    record {
      lines = λ other. rw e.found
          (elim c.match-next_within.branch [
            | in-Ok-next_within+in_default w ↦ rw w.out-is i.lines
            | in-Err-next_within w ↦ rw w.out-is i.lines
            | in-Ok-next_within+in-Some+in-Err-take_item w ↦ rw (w.out-is, w.in-Err-take_item.ensures.unwritten (λ h. other (e.end ∙ w.end-is ∙ ap end.Stopped h))) i.lines
          ]);
      silent = λ none other.
          let silent = i.silent (sym e.last ∙ none) in
          elim c.match-next_within.branch [
            | in-Ok-next_within+in_default w ↦ w.out-is ∙ silent
            | in-Err-next_within w ↦ w.out-is ∙ silent
            | in-Ok-next_within+in-Some+in-Err-take_item w ↦ w.out-is ∙ w.in-Err-take_item.ensures.unwritten (λ h. other (e.end ∙ w.end-is ∙ ap end.Stopped h)) ∙ silent
          ];
      none_found = λ none. e.found ∙ i.none_found (sym e.last ∙ none);
    }

pub returns-clause-told : goal.returns-clause-told
returns-clause-told g c told root over short =
    let i = c.loop-step.invariant in
    let e = c.audit_end-2.ensures in
    rw (e.last, e.found, e.end)
    (elim c.match-next_within.branch [
      | in-Ok-next_within+in_default w ↦ rw (w.store-is, w.out-is, w.end-is)
          (audit_ended (part_of c.args.part.now) (i.told told root over short) _ w.in-Ok-next_within.step.0 (λ tree. w.in-Ok-next_within.ensures.told told root tree c.args.further) w.in_default.is)
      | in-Err-next_within w ↦ rw (w.store-is, w.out-is, w.end-is)
          (audit_lost (part_of c.args.part.now) (i.told told root over short) _ _ (λ tree. w.in-Err-next_within.ensures.told told root tree c.args.further))
      | in-Ok-next_within+in-Some+in-Err-take_item w ↦ rw (w.store-is, w.out-is, w.end-is)
          (audit_missed (part_of c.args.part.now) (i.told told root over short) _ w.in-Ok-next_within.step.0 (λ tree. w.in-Ok-next_within.ensures.told told root tree c.args.further)
          w.in-Some.is w.in-Ok-next_within.ensures.before _ _ _ (λ u q. w.in-Err-take_item.ensures.told c.args.further told root u short q))
    ])

pub returns-clause-unfailing : goal.returns-clause-unfailing
returns-clause-unfailing g c told root over short ended same =
    nothing_unread c.args.further root (part_of c.args.part.now) _ _ _ _ _ _ _ (returns-clause-told g c told root over short) ended same
