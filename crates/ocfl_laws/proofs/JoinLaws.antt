-- Runs of a part one after the other take what it has, and the parts of a root take the audit.
use Rattle.std.proofs.Common.{◌≡◌, ℕ, suc, ◌+◌, ◌≤◌, ◌/◌, List, [], ◌∷◌, ◌++◌, refl, sym, ◌∙◌, ap, subst, Some, None, Option, append-nil, All, map, length, false, arith}
use Rattle.std.proofs.lemmas.List.{map-append, append_cancel_left}
use Rattle.std.specs.{Prelude.{flat_map, slice_get}, List.{AllByRecursion, last_or}}
use Rattle.ocfl_tree.specs.{Place.{Place, place_cmp}, Ascending.{IsAscending}}
use Rattle.ocfl_tree.specs.StorageRoot.{StorageRoot}
use Rattle.ocfl_report.specs.{Line.{Item}, Text.{text}}
use Rattle.ocfl_rules.specs.{Audit.{audit, after, item_of, total_cost}, Lines.{is_empty}}
use Rattle.ocfl_rules.specs.Due.{item_places, hashed_among}
use Rattle.ocfl_rules.specs.Parts.{Part, within, places_within, parts_of}
use Rattle.ocfl_rules.specs.Runs.{Limits, cut, left, runs, total_files, IsAtLeast}
use Rattle.ocfl_rules.specs.Trail.{content_trail, unread_of}
use Rattle.ocfl_rules.proofs.PartLaws.{texts_join, hashed_join, within_by_places}
use Rattle.ocfl_rules.proofs.RunLaws.{large_few}
use Rattle.ocfl_item.proofs.AuditingLaws.{hashed_append}
use Rattle.ocfl_cursor.specs.Cursor.{Cursor}
use Rattle.ocfl_scrub.specs.{Call.{known_call}, Written.{places}}
use Rattle.ocfl_scrub.specs.Running.{place_in, state_after, RunsWithin, RunEndsWithin}
use Rattle.ocfl_scrub.specs.Joining.{PartRun, reports_of, PartCycle}
use Rattle.ocfl_scrub.specs.declared.running.RunStatus.TheVariants as status
use Rattle.ocfl_laws.specs.Joined.{RanWell, AreRuns, opened_by, IsPartCycle}
use Rattle.ocfl_report.specs.declared.further.Further.{Further}
use Rattle.ocfl_scrub.proofs.{AuditLaws.{none_left}, CutLaws.{cut_and_left}, PassLaws.{text_append}}
use Rattle.ocfl_scrub.proofs.{RunLaws.{no_first, some_item}, RunPlaces.{after_front}, RunsJoined.{runs_go_on}}
use Rattle.ocfl_scrub.proofs.ChainLaws.{place_there}

module _ (further : Further) (root : StorageRoot) (part : Part) where
  -- what the part has above a place
  abbrev pub above : Option Place → List Item
  above from = after (within part (audit further root [])) from

  -- what a run took and left, if no failure was counted
  record Step (c : Cursor) (r : PartRun) (next last : Option Place) : Type 0 where
    wrote : r.report ≡ text (cut (above (place_in c.state)) r.limits)
    opened : content_trail further root r.opened ≡ hashed_among further root (places (cut (above (place_in c.state)) r.limits))
    next_is : next ≡ slice_get (places (left (above (place_in c.state)) r.limits)) 0
    goes_on : above last ≡ left (above (place_in c.state)) r.limits

  step : (c : Cursor) (r : PartRun) (next last : Option Place) (w : RanWell further root part c r)
      → RunsWithin (known_call further root w.before w.behind w.old (w.old ++ r.report)) part (place_in c.state) last r.limits r.ran.spent r.ran.files r.ran.found next → Step c r next last
  step c r next last w h =
      let from : Option Place = place_in c.state in
      let none : unread_of further root h.trail ≡ [] = none_left (unread_of further root h.trail) w.before.failures (sym w.unfailing ∙ h.looks.audits.did.failures_are) in
      let same_trail : r.opened ≡ h.trail = append_cancel_left w.before.openings r.opened h.trail (sym w.opened_is ∙ h.looks.audits.did.openings_are) in
      let last_is : last ≡ last_or from (places (cut (above from) r.limits)) = h.last_is ∙ ap (λ u. last_or from (places (cut (after (within part (audit further root u)) from) r.limits))) none in
      record {
        wrote = append_cancel_left w.old r.report (text (cut (above from) r.limits)) (h.wrote ∙ ap (λ u. w.old ++ text (cut (after (within part (audit further root u)) from) r.limits)) none);
        opened = ap (content_trail further root) same_trail ∙ h.looks.audits.opened ∙ ap (λ u. hashed_among further root (places (cut (after (within part (audit further root u)) from) r.limits))) none;
        next_is = h.next_is ∙ ap (λ u. slice_get (places (left (after (within part (audit further root u)) from) r.limits)) 0) none;
        goes_on = ap above last_is ∙ after_front further root [] part from (cut (above from) r.limits) (left (above from) r.limits) (sym (cut_and_left (above from) r.limits));
      }

  -- the run that ended the cycle
  last_step : (c : Cursor) (r : PartRun) (w : RanWell further root part c r) → r.ran.end ≡ status.Ended → Step c r None w.runs.last
  last_step c r w e =
      step c r None w.runs.last w
      (subst (RunEndsWithin (known_call further root w.before w.behind w.old (w.old ++ r.report)) part (place_in c.state) w.runs.last r.limits r.ran.spent r.ran.files r.ran.found) e w.runs.run)

  -- a run that left something, and the next one begins there
  record IsOn (c : Cursor) (r : PartRun) : Type 0 where
    next : Place
    last : Option Place
    took : Step c r (Some next) last
    there : above (place_in r.ran.cursor.state) ≡ left (above (place_in c.state)) r.limits

  next_step : (c : Cursor) (r : PartRun) (w : RanWell further root part c r) → r.ran.end ≡ status.Spent → IsOn c r
  next_step c r w e =
      let run = subst (RunEndsWithin (known_call further root w.before w.behind w.old (w.old ++ r.report)) part (place_in c.state) w.runs.last r.limits r.ran.spent r.ran.files r.ran.found) e w.runs.run in
      let took : Step c r (Some run.0) w.runs.last = step c r (Some run.0) w.runs.last w run.1 in
      let place_is : place_in r.ran.cursor.state ≡ w.runs.last = ap (λ x. place_in x.state) w.runs.cursor_is ∙ ap (λ x. place_in (state_after x w.runs.last)) e ∙ place_there w.runs.last in
      record { next = run.0; last = w.runs.last; took = took; there = ap above place_is ∙ took.goes_on }

  -- what the runs wrote and opened together
  pub record Took (from : Option Place) (rs : List PartRun) : Type 0 where
    pub reports : reports_of rs ≡ text (above from)
    pub opened : opened_by further root rs ≡ hashed_among further root (places (above from))
    pub count : length (runs (above from) (map (λ r. r.limits) rs)) ≡ length rs

  pub took_all : (c : Cursor) (rs : List PartRun) → AreRuns further root part c rs → Took (place_in c.state) rs
  took_all c [] h = absurd h
  took_all c (r ∷ []) h =
      let k = last_step c r h.0 h.1 in
      let from : Option Place = place_in c.state in
      let none : left (above from) r.limits ≡ [] = no_first (left (above from) r.limits) k.next_is in
      let all : cut (above from) r.limits ≡ above from = sym (append-nil (cut (above from) r.limits)) ∙ ap (λ is. cut (above from) r.limits ++ is) (sym none) ∙ cut_and_left (above from) r.limits in
      record {
        reports = append-nil r.report ∙ k.wrote ∙ ap text all;
        opened = append-nil (content_trail further root r.opened) ∙ k.opened ∙ ap (λ is. hashed_among further root (places is)) all;
        count = refl;
      }
  took_all c (r ∷ q ∷ rs) h =
      let k = next_step c r h.0 h.1.0 in
      let from : Option Place = place_in c.state in
      let later = took_all r.ran.cursor (q ∷ rs) h.1.1 in
      let first : List Item = cut (above from) r.limits in
      let rest : List Item = left (above from) r.limits in
      let both : first ++ rest ≡ above from = cut_and_left (above from) r.limits in
      let ls : List Limits = map (λ x. x.limits) (q ∷ rs) in
      let some : is_empty rest ≡ false = some_item rest k.next k.took.next_is in
      record {
        reports = ap (λ x. x ++ reports_of (q ∷ rs)) k.took.wrote ∙ ap (λ x. text first ++ x) (later.reports ∙ ap text k.there) ∙ sym (text_append first rest) ∙ ap text both;
        opened = ap (λ x. x ++ opened_by further root (q ∷ rs)) k.took.opened ∙ ap (λ x. hashed_among further root (places first) ++ x) (later.opened ∙ ap (λ is. hashed_among further root (places is)) k.there)
            ∙ sym (hashed_append further root (places first) (places rest)) ∙ ap (hashed_among further root) (sym (map-append (λ i. i.place) first rest)) ∙ ap (λ is. hashed_among further root (places is)) both;
        count = ap (λ xs. length (first ∷ xs)) (runs_go_on rest ls some) ∙ ap suc (ap (λ is. length (runs is ls)) (sym k.there) ∙ later.count);
      }

  -- ---- from the first item on

  -- those of a part's places
  pub places_are : places (within part (audit further root [])) ≡ places_within part (item_places further root)
  places_are = ap places (within_by_places further root [] part) ∙ same (places_within part (item_places further root))
    where
      same : (ps : List Place) → places (map (item_of further root []) ps) ≡ ps
      same [] = refl
      same (p ∷ ps) = ap (λ qs. p ∷ qs) (same ps)

  module _ (c : Cursor) (rs : List PartRun) (fresh : place_in c.state ≡ None) (h : AreRuns further root part c rs) where
    took_part : Took None rs
    took_part = subst (λ from. Took from rs) fresh (took_all c rs h)

    pub part_reports : reports_of rs ≡ text (within part (audit further root []))
    part_reports = took_part.reports

    pub part_opened : opened_by further root rs ≡ hashed_among further root (places_within part (item_places further root))
    part_opened = took_part.opened ∙ ap (hashed_among further root) places_are

    pub part_runs : (b n : ℕ) → 1 ≤ b → 1 ≤ n → All (IsAtLeast b n) (map (λ r. r.limits) rs)
        → length rs ≤ total_cost (within part (audit further root [])) / b + total_files (within part (audit further root [])) / n + 1
    part_runs b n p q large = let m = large_few b n p q (map (λ r. r.limits) rs) (within part (audit further root [])) large in let e = took_part.count in omega (arith, m, e)

-- ---- all parts

module _ (further : Further) (root : StorageRoot) where
  each_report : (ds : List PartCycle) → AllByRecursion (IsPartCycle further root) ds → flat_map (λ d. reports_of d.runs) ds ≡ flat_map (λ part. text (within part (audit further root []))) (map (λ d. d.part) ds)
  each_report [] h = refl
  each_report (d ∷ ds) h = ap (λ x. x ++ flat_map (λ e. reports_of e.runs) ds) (part_reports further root d.part d.first d.runs h.0.begins h.0.are)
      ∙ ap (λ x. text (within d.part (audit further root [])) ++ x) (each_report ds h.1)

  each_opened : (ds : List PartCycle) → AllByRecursion (IsPartCycle further root) ds
      → flat_map (λ d. opened_by further root d.runs) ds ≡ flat_map (λ part. hashed_among further root (places_within part (item_places further root))) (map (λ d. d.part) ds)
  each_opened [] h = refl
  each_opened (d ∷ ds) h = ap (λ x. x ++ flat_map (λ e. opened_by further root e.runs) ds) (part_opened further root d.part d.first d.runs h.0.begins h.0.are)
      ∙ ap (λ x. hashed_among further root (places_within d.part (item_places further root)) ++ x) (each_opened ds h.1)

  module _ (separators : List Place) (ds : List PartCycle) (up : IsAscending place_cmp separators) (are : map (λ d. d.part) ds ≡ parts_of separators)
      (done : AllByRecursion (IsPartCycle further root) ds) where
    pub all_reports : flat_map (λ d. reports_of d.runs) ds ≡ text (audit further root [])
    all_reports = each_report ds done ∙ ap (flat_map (λ part. text (within part (audit further root [])))) are ∙ texts_join further root separators up []

    pub all_opened : flat_map (λ d. opened_by further root d.runs) ds ≡ hashed_among further root (item_places further root)
    all_opened = each_opened ds done ∙ ap (flat_map (λ part. hashed_among further root (places_within part (item_places further root)))) are ∙ hashed_join further root separators up
