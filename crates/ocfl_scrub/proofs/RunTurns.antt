-- One turn of the loop of a run.
use Rattle.std.proofs.Common.{◌≡◌, ℕ, ◌+◌, List, refl, sym, ◌∙◌, ap, subst, true, false, Bool, Some, None, Option}
use Rattle.std.specs.{Prelude.{◌||◌}, List.{last_or}}
use Rattle.ocfl_tree.specs.{Place.{Place}, StorageRoot.{StorageRoot}, Store.{Store}}
use Rattle.ocfl_rules.specs.Due.{due}
use Rattle.ocfl_rules.specs.Inventories.{is_hashed}
use Rattle.ocfl_rules.specs.Parts.{Part}
use Rattle.ocfl_rules.specs.Runs.{Limits, files_of}
use Rattle.ocfl_cursor.specs.Meter.{Meter, MayStart}
use Rattle.ocfl_cursor.specs.declared.limits.Limits.{Limits as MadeLimits}
use Rattle.ocfl_walk.specs.{Ends.{is_past}, WalkCalls.{GoesDown, FailsOut}}
use Rattle.ocfl_walk.specs.{Walks.{Stands, GivesOut}, declared.walk.Walk.{Walk}}
use Rattle.ocfl_item.specs.{Judging.{CostFits}}
use Rattle.ocfl_scrub.specs.Types.{ReportStop}
use Rattle.ocfl_item.specs.declared.pending.Pending.{Pending}
use Rattle.ocfl_item.specs.declared.fault.Fault.{Fault}
use Rattle.ocfl_report.specs.declared.further.Further.{Further}
use Rattle.ocfl_scrub.specs.{Call.{call_of}, Passes.{IsAhead}}
use Rattle.ocfl_scrub.specs.Running.{limits_of, IsPaid, RunsWithin, RunStopsWithin}
use Rattle.ocfl_scrub.specs.{Starting.{end_of, entry, stand}, Taking.{Takes, Misses}}
use Rattle.ocfl_scrub.specs.declared.kept.Met.{Met}
use Rattle.ocfl_scrub.specs.declared.stop.ReportStop.TheVariants as halt
use Rattle.ocfl_scrub.proofs.{AuditsJoined.{audits_over}, MeterLaws.{paid_item}}
use Rattle.ocfl_scrub.proofs.Paying.{IsWithinBoth, Pays}
use Rattle.ocfl_scrub.proofs.PayLaws.{pays_none, pays_took, pays_missed, pays_lost, pays_up_to, pays_finish}
use Rattle.ocfl_scrub.proofs.RunLaws.{ended, spent_all, stopped}
use Rattle.ocfl_scrub.proofs.BetweenLaws.{HasGoneOn, gone_self, gone_next}
use Rattle.ocfl_scrub.proofs.PassLaws.{passes_none, passes_took, passes_missed, passes_lost, all_done, due_beyond, last_append}
use Rattle.ocfl_scrub.proofs.LoopLaws.{GivesItem}

-- ---- on every store

-- below both limits by the meter
pub within_both : (limits : MadeLimits) (m : Meter) → m.limits ≡ limits → MayStart m → IsWithinBoth (limits_of limits) m.spent m.files
within_both limits m e h = subst (λ k. IsWithinBoth (limits_of k) m.spent m.files) e h

pub not_within : (limits : MadeLimits) (m : Meter) → m.limits ≡ limits → (MayStart m → ⊥) → IsWithinBoth (limits_of limits) m.spent m.files → ⊥
not_within limits m e h k = h (subst (λ x. IsWithinBoth (limits_of x) m.spent m.files) (sym e) k)

-- what was charged was paid for
pub charged_item : (limits : MadeLimits) (m : Meter) (cost charged started : ℕ) (hashed : Bool) → m.limits ≡ limits → IsPaid (limits_of limits) m.spent m.files
    → CostFits hashed cost → (hashed ≡ true → MayStart m)
    → charged ≡ m.spent + cost → started ≡ m.files + files_of cost → IsPaid (limits_of limits) charged started
charged_item limits m cost charged started hashed e h c may f g = paid_item (limits_of limits) m.spent m.files cost charged started hashed h c (λ i. within_both limits m e (may i)) f g

-- ---- on a store that tells its tree

-- from s to t a walk went down to where a run of a part begins, the items from there on were taken
-- and paid for, and after the last of them it stood there
pub record HasPaid (further : Further) (root : StorageRoot) (part : Part) (s t : Store) (old new : Option (List ℕ)) (from last : Option Place) (l : Limits) (spent files : ℕ) (finding : Bool) : Type 0 where
  pub begun : Store
  pub stood : Option Place
  pub down : GoesDown further root s begun (entry part from)
  pub beyond : HasGoneOn (end_of part) (stand root part from) stood
  pub pays : Pays further root (end_of part) begun t old new (stand root part from) stood l spent files finding
  pub last_is : last ≡ last_or from pays.passes.done

-- and the walk stands there still
pub record HasStood (further : Further) (root : StorageRoot) (part : Part) (s t : Store) (old new : Option (List ℕ)) (walk : Walk) (from last : Option Place) (l : Limits) (spent files : ℕ) (finding : Bool) : Type 0 where
  pub paid : HasPaid further root part s t old new from last l spent files finding
  pub stands : Stands further root walk paid.stood

-- or it has met the next item
pub record HasMet (further : Further) (root : StorageRoot) (part : Part) (s t : Store) (old new : Option (List ℕ)) (walk : Walk) (q : Pending) (from last : Option Place) (l : Limits) (spent files : ℕ) (finding : Bool) : Type 0 where
  pub there : Store
  pub paid : HasPaid further root part s there old new from last l spent files finding
  pub item : GivesItem further root (end_of part) there t paid.stood walk q

nothing_paid : (further : Further) (root : StorageRoot) (part : Part) (s t : Store) (old : Option (List ℕ)) (from : Option Place) (l : Limits) (spent files : ℕ) → spent ≡ 0 → files ≡ 0
    → GoesDown further root s t (entry part from) → HasPaid further root part s t old old from from l spent files false
unfolding passes_none pays_none
nothing_paid further root part s t old from l spent files e f down = record {
  begun = t;
  stood = stand root part from;
  down = down;
  beyond = gone_self (end_of part) (stand root part from);
  pays = pays_none further root (end_of part) t old (stand root part from) l spent files (audits_over down.audits) e f;
  last_is = refl;
}

pub stands_first : (further : Further) (root : StorageRoot) (part : Part) (s t : Store) (old : Option (List ℕ)) (walk : Walk) (from : Option Place) (l : Limits)
    → GoesDown further root s t (entry part from) × Stands further root walk (stand root part from) → (h : HasStood further root part s t old old walk from from l 0 0 false) × (h.paid.stood ≡ stand root part from)
unfolding nothing_paid passes_none pays_none
stands_first further root part s t old walk from l there = (record { paid = nothing_paid further root part s t old from l 0 0 refl refl there.0; stands = there.1 }, refl)

pub met_first : (further : Further) (root : StorageRoot) (part : Part) (s t : Store) (old : Option (List ℕ)) (m : Met) (from : Option Place) (l : Limits) (spent files : ℕ) → spent ≡ 0 → files ≡ 0
    → IsAhead further root part from m s t → HasMet further root part s t old old m.walk m.item from from l spent files false
unfolding nothing_paid passes_none pays_none
met_first further root part s t old m from l spent files e f h = record {
  there = h.begun;
  paid = nothing_paid further root part s h.begun old from l spent files e f h.down;
  item = record { gives = h.gives; above = due_beyond further root (stand root part from) m.item.place (due further root (Some m.item.place)) h.gives.3; in_front = h.in_front };
}

module _ {further : Further} {root : StorageRoot} {s t : Store} {old mid : Option (List ℕ)} {walk : Walk} {from last : Option Place} {l : Limits} {spent files : ℕ} {finding : Bool} (part : Part)
    (h : HasStood further root part s t old mid walk from last l spent files finding) (u : Store) where
  -- nothing is left before the end
  pub run_ended : (next : Walk) → GivesOut further root t u h.paid.stood (end_of part) next None → RunsWithin (call_of further root s u old mid) part from last l spent files finding None
  run_ended next gives =
      let k = h.paid in
      let all = all_done further root (end_of part) k.begun t u old mid (stand root part from) k.stood finding k.beyond k.pays.passes gives.1 in
      ended further root part s k.begun u old mid from k.stood last l spent files finding k.down
      (pays_finish further root (end_of part) k.begun t u old mid (stand root part from) k.stood l spent files finding k.beyond k.pays gives.0 gives.1) (k.last_is ∙ ap (last_or from) all)

  -- the walk did not get to its next item
  pub run_lost : (why : Fault) → FailsOut further root t u h.paid.stood (end_of part) why → RunStopsWithin (call_of further root s u old mid) part from last l spent files finding (halt.Fault why)
  unfolding passes_lost pays_lost
  run_lost why lost =
      let k = h.paid in
      stopped further root part s k.begun u old mid from k.stood last l spent files finding k.down (halt.Fault why)
      (pays_lost further root (end_of part) k.begun t u old mid (stand root part from) k.stood l spent files finding k.beyond k.pays why lost) k.last_is

  pub run_meets : (next : Walk) (q : Pending) → GivesOut further root t u h.paid.stood (end_of part) next (Some q) → is_past (end_of part) q.place ≡ false
      → HasMet further root part s u old mid next q from last l spent files finding
  run_meets next q gives before = record {
    there = t;
    paid = h.paid;
    item = record { gives = gives; above = due_beyond further root h.paid.stood q.place (due further root (Some q.place)) gives.3; in_front = before };
  }

module _ {further : Further} {root : StorageRoot} {s u : Store} {old mid : Option (List ℕ)} {walk : Walk} {q : Pending} {from last : Option Place} {l : Limits} {spent files : ℕ} {finding : Bool} (part : Part)
    (h : HasMet further root part s u old mid walk q from last l spent files finding) where
  hashed_too : {P : Type 0} → (q.hashed ≡ true → P) → is_hashed further root q.place ≡ true → P
  hashed_too f e = f (h.item.gives.2.hashed ∙ e)

  pub run_spent : q.hashed ≡ true → (IsWithinBoth l spent files → ⊥) → (p : Place) × RunsWithin (call_of further root s u old mid) part from last l spent files finding (Some p)
  unfolding pays_up_to
  run_spent e f =
      let k = h.paid in
      let up_to = pays_up_to further root (end_of part) k.begun h.there u old mid (stand root part from) k.stood l spent files finding k.beyond k.pays q.place
      h.item.above h.item.gives.3 h.item.in_front h.item.gives.0 (sym h.item.gives.2.hashed ∙ e) f in
      (up_to.next, spent_all further root part s k.begun u old mid from k.stood last l spent files finding k.down up_to k.last_is)

  module _ (may : q.hashed ≡ true → IsWithinBoth l spent files) (v : Store) (new : Option (List ℕ)) where
    pub run_took : (place : Place) (cost charged started : ℕ) (more either : Bool) → place ≡ q.place → charged ≡ spent + cost → started ≡ files + files_of cost → either ≡ (finding || more)
        → Takes (call_of further root u v mid new) q.place cost more → HasStood further root part s v old new walk from (Some place) l charged started either
    unfolding passes_took pays_took
    run_took place cost charged started more either e f g i takes =
        let k = h.paid in
        subst (λ p. HasStood further root part s v old new walk from (Some p) l charged started either) (sym e) (record {
          paid = record {
            begun = k.begun;
            stood = Some q.place;
            down = k.down;
            beyond = gone_next (end_of part) (stand root part from) k.stood q.place k.beyond h.item.above h.item.in_front;
            pays = pays_took further root (end_of part) k.begun h.there u old mid (stand root part from) k.stood l spent files finding k.beyond k.pays q.place h.item.above
                h.item.gives.3 h.item.in_front h.item.gives.0 v new (hashed_too may) cost charged started more either takes f g i;
            last_is = sym (last_append from k.pays.passes.done q.place);
          };
          stands = h.item.gives.1;
        })

    pub run_missed : (why : ReportStop) → Misses (call_of further root u v mid new) q.place why → RunStopsWithin (call_of further root s v old new) part from last l spent files finding why
    unfolding passes_missed pays_missed
    run_missed why misses =
        let k = h.paid in
        stopped further root part s k.begun v old new from k.stood last l spent files finding k.down why
        (pays_missed further root (end_of part) k.begun h.there u old mid (stand root part from) k.stood l spent files finding k.beyond k.pays q.place h.item.above
        h.item.gives.3 h.item.in_front h.item.gives.0 v new (hashed_too may) why misses)
        k.last_is
