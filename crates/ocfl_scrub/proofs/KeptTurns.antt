-- A pass that goes on from an item that was met, turn by turn: what it does here, and what it does
-- on any store on which a walk could have come to that item.
use Rattle.std.proofs.Common.{◌≡◌, ℕ, ◌+◌, List, sym, ◌∙◌, subst, true, false, Bool, Some, None, Option}
use Rattle.std.specs.Prelude.{◌||◌, IfSome}
use Rattle.ocfl_tree.specs.{Place.{Place}, StorageRoot.{StorageRoot}, Store.{Store}}
use Rattle.ocfl_rules.specs.{Due.{due}, Parts.{Part}, Runs.{Limits, files_of}}
use Rattle.ocfl_item.specs.{Pending.{IsPending}, declared.fault.Fault.{Fault}}
use Rattle.ocfl_scrub.specs.Types.{ReportStop}
use Rattle.ocfl_item.specs.declared.pending.Pending.{Pending}
use Rattle.ocfl_report.specs.declared.further.Further.{Further}
use Rattle.ocfl_walk.specs.{Ends.{is_past}, WalkCalls.{FailsOut}, Walks.{GivesOut, Stands}}
use Rattle.ocfl_walk.specs.declared.walk.Walk.{Walk}
use Rattle.ocfl_scrub.specs.{Alike.{IsAlike}, Call.{call_of}, Keeping.{IsMet}}
use Rattle.ocfl_scrub.specs.{Passes.{IsAhead, PassesOn}, Starting.{end_of}, Taking.{Misses, Takes}}
use Rattle.ocfl_scrub.specs.{declared.kept.Met.{Met}, declared.running.Pass.{Pass}}
use Rattle.ocfl_scrub.specs.declared.running.RunStatus.{RunStatus}
use Rattle.ocfl_scrub.specs.declared.running.RunStatus.TheVariants as status
use Rattle.ocfl_scrub.specs.declared.stop.ReportStop.TheVariants as halt
use Rattle.ocfl_scrub.proofs.AlikeLaws.{alike_start, alike_then, alike_there, alike_tree, gives_elsewhere, lost_elsewhere, misses_elsewhere, takes_elsewhere}
use Rattle.ocfl_scrub.proofs.{AuditsJoined.{audits_over}, KeptLaws.{met_ready}}
use Rattle.ocfl_scrub.proofs.LookedLaws.{HasLooked, above_ended, above_lost, above_missed, above_spent, looked_first, looked_on, looked_over, looked_took, met_lies}
use Rattle.ocfl_scrub.proofs.{LoopLaws.{GivesNext}, PassLaws.{due_beyond}, Paying.{IsWithinBoth}}
use Rattle.ocfl_scrub.proofs.RunTurns.{HasMet, HasStood, met_first, run_ended, run_lost, run_meets, run_missed, run_spent, run_took}

-- From s to t items were taken from m on, and the walk met the next one. From any store on which a
-- walk could have come to m, calls alike do what a run does.
pub record IsOnWay (further : Further) (root : StorageRoot) (part : Part) (s t : Store) (old new : Option (List ℕ)) (m : Met) (walk : Walk) (q : Pending) (from last : Option Place) (l : Limits) (spent files : ℕ) (finding : Bool) : Type 0 where
  pub looked : IsMet further root part from m → HasLooked further root part s t m.item.place walk q
  pub meets : (d a : Store) → a.rest ≡ s.rest → a.largest ≡ s.largest → IsAhead further root part from m d a
      → (b : Store) × (IsAlike s t a b × HasMet further root part d b old new walk q from last l spent files finding)

pub on_way_first : (further : Further) (root : StorageRoot) (part : Part) (s : Store) (old : Option (List ℕ)) (m : Met) (from : Option Place) (l : Limits) (spent files : ℕ) → spent ≡ 0 → files ≡ 0 → s.tree ≡ root
    → IsOnWay further root part s s old old m m.walk m.item from from l spent files false
on_way_first further root part s old m from l spent files e f over = record {
  looked = λ met. looked_first further root part s from m over met;
  meets = λ d a rest largest ahead. (a, (alike_start s a rest largest, met_first further root part d a old m from l spent files e f ahead));
}

pub ahead_over : {further : Further} {root : StorageRoot} {part : Part} {from : Option Place} {m : Met} {s t : Store} → IsAhead further root part from m s t → t.tree ≡ root
ahead_over h = audits_over h.gives.0.audits

-- a pass that ended so
abbrev pub pass_of : Option Place → ℕ → ℕ → Bool → RunStatus → Option Met → Pass
pass_of last spent files finding end kept = record { last = last; spent = spent; files = files; found = finding; end = end; met = kept }

pub pass_is : (pass : Pass) (last : Option Place) (spent files : ℕ) (finding : Bool) (end : RunStatus) (kept : Option Met) → pass.last ≡ last → pass.spent ≡ spent → pass.files ≡ files
    → pass.found ≡ finding → pass.end ≡ end → pass.met ≡ kept → pass_of last spent files finding end kept ≡ pass
pass_is pass last spent files finding end kept e f g h i j = λ x. record {
  last = sym e x;
  spent = sym f x;
  files = sym g x;
  found = sym h x;
  end = sym i x;
  met = sym j x;
}

module _ {further : Further} {root : StorageRoot} {s t : Store} {old mid : Option (List ℕ)} {m : Met} {walk : Walk} {q : Pending} {from last : Option Place} {l : Limits} {spent files : ℕ} {finding : Bool} (part : Part)
    (over : s.tree ≡ root) (h : IsOnWay further root part s t old mid m walk q from last l spent files finding) where
  -- the limits are reached, and the walk is kept
  pub way_spent : (kept : Met) → kept.walk ≡ walk → kept.item ≡ q → q.hashed ≡ true → (IsWithinBoth l spent files → ⊥)
      → PassesOn (call_of further root s t old mid) part m from l (pass_of last spent files finding status.Spent (Some kept))
  way_spent kept e f hashed reached = record {
    looks = λ is. above_spent (h.looked is).looked (met_lies further root part from m is) old mid;
    ends = λ d a rest largest ahead.
        let x = h.meets d a rest largest ahead in
        let there : HasMet further root part d x.0 old mid kept.walk kept.item from last l spent files finding =
        subst (λ p. HasMet further root part d x.0 old mid kept.walk p from last l spent files finding) (sym f)
        (subst (λ k. HasMet further root part d x.0 old mid k q from last l spent files finding) (sym e) x.1.1) in
        (x.0, (x.1.0, (run_spent part x.1.1 hashed reached, met_ready kept there)));
  }

  module _ (may : q.hashed ≡ true → IsWithinBoth l spent files) (v : Store) (new : Option (List ℕ)) where
    -- the item was not taken
    pub way_missed : (why : ReportStop) → (t.tree ≡ root → IsPending further root q → Misses (call_of further root t v mid new) q.place why)
        → PassesOn (call_of further root s v old new) part m from l (pass_of last spent files finding (status.Stopped why) None)
    way_missed why missed = record {
      looks = λ is.
          let k = h.looked is in
          above_missed k.looked (met_lies further root part from m is) v old new mid why (missed (looked_over k.looked) k.pending);
      ends = λ d a rest largest ahead.
          let x = h.meets d a rest largest ahead in
          let misses = missed (alike_tree x.1.0 ∙ over) x.1.1.item.gives.2 in
          let y = misses_elsewhere further root t v x.0 (alike_there x.1.0 ∙ ahead_over ahead) mid new q.place why misses in
          (y.0, (alike_then x.1.0 y.1.0, (run_missed part x.1.1 may y.0 new why y.1.1, tt)));
    }

    -- the item was taken
    module _ (place : Place) (cost charged started : ℕ) (more either : Bool) (at : place ≡ q.place) (charge : charged ≡ spent + cost) (start : started ≡ files + files_of cost) (finds : either ≡ (finding || more))
        (took : t.tree ≡ root → IsPending further root q → Takes (call_of further root t v mid new) q.place cost more) where
      stood : (d a : Store) → a.rest ≡ s.rest → a.largest ≡ s.largest → IsAhead further root part from m d a
          → (b : Store) × (IsAlike s v a b × HasStood further root part d b old new walk from (Some place) l charged started either)
      stood d a rest largest ahead =
          let x = h.meets d a rest largest ahead in
          let takes = took (alike_tree x.1.0 ∙ over) x.1.1.item.gives.2 in
          let y = takes_elsewhere further root t v x.0 (alike_there x.1.0 ∙ ahead_over ahead) mid new q.place cost more takes in
          (y.0, (alike_then x.1.0 y.1.0, run_took part x.1.1 may y.0 new place cost charged started more either at charge start finds y.1.1))

      module _ (w : Store) where
        module _ (next : Walk) (o : Option Pending) (gave : GivesNext further root (end_of part) v w walk next o) where
          pub way_ended : o ≡ None → PassesOn (call_of further root s w old new) part m from l (pass_of (Some place) charged started either status.Ended None)
          way_ended is = record {
            looks = λ met.
                let k = h.looked met in
                let there = looked_took k.looked v mid new cost more (took (looked_over k.looked) k.pending) in
                let gives : GivesOut further root v w (Some q.place) (end_of part) next None = subst (GivesOut further root v w (Some q.place) (end_of part) next) is (gave (looked_over there) (Some q.place) k.stands) in
                above_ended there (met_lies further root part from m met) w old new gives.0;
            ends = λ d a rest largest ahead.
                let x = stood d a rest largest ahead in
                let gives : GivesOut further root v w x.1.1.paid.stood (end_of part) next None =
                subst (GivesOut further root v w x.1.1.paid.stood (end_of part) next) is (gave (alike_tree x.1.0 ∙ over) x.1.1.paid.stood x.1.1.stands) in
                let y = gives_elsewhere further root v w x.0 (alike_there x.1.0 ∙ ahead_over ahead) x.1.1.paid.stood (end_of part) next None gives in
                (y.0, (alike_then x.1.0 y.1.0, (run_ended part x.1.1 y.0 next y.1.1, tt)));
          }

          pub way_next : (r : Pending) → o ≡ Some r → IfSome o (λ p. is_past (end_of part) p.place ≡ false)
              → IsOnWay further root part s w old new m next r from (Some place) l charged started either
          way_next r is before =
              let in_front : is_past (end_of part) r.place ≡ false = subst (λ x. IfSome x (λ p. is_past (end_of part) p.place ≡ false)) is before in
              record {
                looked = λ met.
                    let k = h.looked met in
                    let there = looked_took k.looked v mid new cost more (took (looked_over k.looked) k.pending) in
                    let gives : GivesOut further root v w (Some q.place) (end_of part) next (Some r) = subst (GivesOut further root v w (Some q.place) (end_of part) next) is (gave (looked_over there) (Some q.place) k.stands) in
                    record {
                      looked = looked_on there w r.place (due_beyond further root (Some q.place) r.place (due further root (Some r.place)) gives.3) in_front gives.0;
                      pending = gives.2;
                      stands = gives.1;
                    };
                meets = λ d a rest largest ahead.
                    let x = stood d a rest largest ahead in
                    let gives : GivesOut further root v w x.1.1.paid.stood (end_of part) next (Some r) =
                    subst (GivesOut further root v w x.1.1.paid.stood (end_of part) next) is (gave (alike_tree x.1.0 ∙ over) x.1.1.paid.stood x.1.1.stands) in
                    let y = gives_elsewhere further root v w x.0 (alike_there x.1.0 ∙ ahead_over ahead) x.1.1.paid.stood (end_of part) next (Some r) gives in
                    (y.0, (alike_then x.1.0 y.1.0, run_meets part x.1.1 y.0 next r y.1.1 in_front));
              }

        -- the walk did not get to its next item
        pub way_lost : (why : Fault) → (v.tree ≡ root → (p : Option Place) → Stands further root walk p → FailsOut further root v w p (end_of part) why)
            → PassesOn (call_of further root s w old new) part m from l (pass_of (Some place) charged started either (status.Stopped (halt.Fault why)) None)
        way_lost why lost = record {
          looks = λ met.
              let k = h.looked met in
              let there = looked_took k.looked v mid new cost more (took (looked_over k.looked) k.pending) in
              above_lost there (met_lies further root part from m met) w old new why (lost (looked_over there) (Some q.place) k.stands);
          ends = λ d a rest largest ahead.
              let x = stood d a rest largest ahead in
              let y = lost_elsewhere further root v w x.0 (alike_there x.1.0 ∙ ahead_over ahead) x.1.1.paid.stood (end_of part) why (lost (alike_tree x.1.0 ∙ over) x.1.1.paid.stood x.1.1.stands) in
              (y.0, (alike_then x.1.0 y.1.0, (run_lost part x.1.1 y.0 why y.1.1, tt)));
        }
