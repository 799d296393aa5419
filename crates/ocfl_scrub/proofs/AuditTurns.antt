-- One turn of the loop of an audit of a part.
use Rattle.std.proofs.Common.{◌≡◌, ℕ, List, refl, sym, ◌∙◌, ap, subst, false, Bool, Some, None, Option}
use Rattle.std.specs.{Prelude.{◌||◌, IfSome}, List.{last_or}}
use Rattle.ocfl_tree.specs.{Place.{Place}, StorageRoot.{StorageRoot}, Store.{Store}}
use Rattle.ocfl_rules.specs.Parts.{Part}
use Rattle.ocfl_walk.specs.{Ends.{is_past}, WalkCalls.{GoesDown, FailsOut}}
use Rattle.ocfl_walk.specs.{Walks.{Stands, GivesOut}, declared.walk.Walk.{Walk}}
use Rattle.ocfl_item.specs.{Pending.{IsPending}, declared.fault.Fault.{Fault}}
use Rattle.ocfl_scrub.specs.Types.{ReportStop}
use Rattle.ocfl_item.specs.declared.pending.Pending.{Pending}
use Rattle.ocfl_report.specs.declared.further.Further.{Further}
use Rattle.ocfl_scrub.specs.{Call.{call_of}, Starting.{end_of, entry, stand}}
use Rattle.ocfl_scrub.specs.{Taking.{Takes, Misses}, WholeAudit.{AuditsWithin, AuditStopsWithin}}
use Rattle.ocfl_scrub.specs.declared.stop.ReportStop.TheVariants as halt
use Rattle.ocfl_scrub.proofs.AuditsJoined.{audits_over}
use Rattle.ocfl_scrub.proofs.{BetweenLaws.{HasGoneOn, gone_self, gone_next}, Passing.{Passes}}
use Rattle.ocfl_scrub.proofs.AuditLaws.{finish_part, halt_part}
use Rattle.ocfl_scrub.proofs.PassLaws.{passes_none, passes_over, passes_took, passes_missed, passes_lost, passes_finish, all_done, last_append}
use Rattle.ocfl_scrub.proofs.LoopLaws.{GivesNext, GivesItem, gives_item, walked_over}

-- from s to t a walk went down to where a part begins, the items from there on were taken, and the
-- walk stands after the last of them
pub record HasTaken (further : Further) (root : StorageRoot) (part : Part) (s t : Store) (old new : Option (List ℕ)) (walk : Walk) (last : Option Place) (finding : Bool) : Type 0 where
  pub begun : Store
  pub stood : Option Place
  pub down : GoesDown further root s begun (entry part None)
  pub stands : Stands further root walk stood
  pub beyond : HasGoneOn (end_of part) (stand root part None) stood
  pub passes : Passes further root (end_of part) begun t old new (stand root part None) stood finding
  pub last_is : last ≡ last_or None passes.done

pub nothing_taken : (further : Further) (root : StorageRoot) (part : Part) (s t : Store) (old : Option (List ℕ)) (walk : Walk) → GoesDown further root s t (entry part None)
    × Stands further root walk (stand root part None) → HasTaken further root part s t old old walk None false
unfolding passes_none
nothing_taken further root part s t old walk there = record {
  begun = t;
  stood = stand root part None;
  down = there.0;
  stands = there.1;
  beyond = gone_self (end_of part) (stand root part None);
  passes = passes_none further root (end_of part) t old (stand root part None) (audits_over there.0.audits);
  last_is = refl;
}

module _ {further : Further} {root : StorageRoot} {s t : Store} {old mid : Option (List ℕ)} {walk : Walk} {last : Option Place} {finding : Bool} (part : Part)
    (h : HasTaken further root part s t old mid walk last finding) (u : Store) where
  module _ {o : Option Pending} (next : Walk) (gave : GivesNext further root (end_of part) t u walk next o) where
    -- nothing is left before the end
    pub audit_ended : o ≡ None → AuditsWithin (call_of further root s u old mid) part last finding
    audit_ended is =
        let gives : GivesOut further root t u h.stood (end_of part) next None = subst (GivesOut further root t u h.stood (end_of part) next) is (gave (passes_over h.passes) h.stood h.stands) in
        let all = all_done further root (end_of part) h.begun t u old mid (stand root part None) h.stood finding h.beyond h.passes gives.1 in
        finish_part further root part s h.begun u old mid h.stood last finding h.down
        (passes_finish further root (end_of part) h.begun t u old mid (stand root part None) h.stood finding h.beyond h.passes gives.0 gives.1) (h.last_is ∙ ap (last_or None) all)

    module _ {q : Pending} (is : o ≡ Some q) (before : IfSome o (λ p. is_past (end_of part) p.place ≡ false)) (v : Store) (new : Option (List ℕ)) where
      item : GivesItem further root (end_of part) t u h.stood next q
      item = gives_item further root (end_of part) t u walk next h.stood _ _ gave (passes_over h.passes) h.stands is before

      pub audit_took : (place : Place) (cost : ℕ) (more either : Bool) → place ≡ q.place → either ≡ (finding || more)
          → (u.tree ≡ root → IsPending further root q → Takes (call_of further root u v mid new) q.place cost more)
          → HasTaken further root part s v old new next (Some place) either
      unfolding passes_took
      audit_took place cost more either e f takes = subst (λ p. HasTaken further root part s v old new next (Some p) either) (sym e) (record {
        begun = h.begun;
        stood = Some q.place;
        down = h.down;
        stands = item.gives.1;
        beyond = gone_next (end_of part) (stand root part None) h.stood q.place h.beyond item.above item.in_front;
        passes = passes_took further root (end_of part) h.begun t u old mid (stand root part None) h.stood finding h.beyond h.passes q.place item.above item.gives.3
            item.in_front item.gives.0 v new cost more either (takes (walked_over item.gives.0) item.gives.2) f;
        last_is = sym (last_append None h.passes.done q.place);
      })

      pub audit_missed : (why : ReportStop) → (u.tree ≡ root → IsPending further root q → Misses (call_of further root u v mid new) q.place why) → AuditStopsWithin (call_of further root s v old new) part last finding why
      unfolding passes_missed
      audit_missed why misses = halt_part further root part s h.begun v old new h.stood last finding h.down why
          (passes_missed further root (end_of part) h.begun t u old mid (stand root part None) h.stood finding h.beyond h.passes q.place item.above item.gives.3
          item.in_front item.gives.0 v new why (misses (walked_over item.gives.0) item.gives.2)) h.last_is

  -- the walk did not get to its next item
  pub audit_lost : (why : Fault)
      → (t.tree ≡ root → (p : Option Place) → Stands further root walk p → FailsOut further root t u p (end_of part) why) → AuditStopsWithin (call_of further root s u old mid) part last finding (halt.Fault why)
  unfolding passes_lost
  audit_lost why lost = halt_part further root part s h.begun u old mid h.stood last finding h.down (halt.Fault why)
      (passes_lost further root (end_of part) h.begun t u old mid (stand root part None) h.stood finding h.beyond h.passes why (lost (passes_over h.passes) h.stood h.stands)) h.last_is
