-- Runs of one cycle, of which any may stop and meet files that it cannot read, take the audit with
-- what they could not read.
use Rattle.std.proofs.Common.{◌≡◌, ◌≢◌, ◌⊎◌, inl, inr, ℕ, suc, ◌+◌, ◌*◌, ◌/◌, ◌≤◌, List, [], ◌∷◌, ◌++◌, refl, sym, ◌∙◌, ap, subst, true, false, Bool, Some, None, Option, append-nil, append_assoc, All, map, filter, not, take, drop, length, suc-mul, arith, ltb-false}
use Rattle.std.proofs.lemmas.List.{map-append, append_cancel_left, take-append-drop}
use Rattle.std.proofs.{lemmas.List.Elements.{All-head, All-tail}, lemmas.Nat.{le-div}}
use Rattle.std.specs.{Prelude.{cond, flat_map, ◌==◌, ◌||◌, ◌&&◌, nat_lt, slice_get}, List.{AllByRecursion, last_or}}
use Rattle.std.specs.{Ordering.{is_lt, is_eq}, declared.cmp.Ordering.{Ordering}}
use Rattle.std.specs.declared.cmp.Ordering.TheVariants.{Less, Equal, Greater}
use Rattle.ocfl_tree.specs.Place.{Text, Place, place_cmp, place_eq}
use Rattle.ocfl_tree.specs.{Ascending.{IsAscending, IsAmong}, StorageRoot.{StorageRoot}}
use Rattle.ocfl_tree.specs.{Store.{Store}, declared.store.Opening.{Opening}}
use Rattle.ocfl_tree.proofs.Orders.{place_cmp_total, place_cmp_exact, true_not_false, not_less, not_both_below, not_less_itself, before_each, among_from_filter, among_left, among_right}
use Rattle.ocfl_tree.proofs.Stores.{among_either}
use Rattle.ocfl_report.specs.{Line.{Item}, Text.{text}}
use Rattle.ocfl_rules.specs.Audit.{Unread, given_by, audit, after, item_of, total_cost}
use Rattle.ocfl_rules.specs.Due.{item_places, due, items_at, hashed_among}
use Rattle.ocfl_rules.specs.Parts.{Part, lies_in, within, places_within, parts_of, unread_in, together}
use Rattle.ocfl_rules.specs.Runs.{Limits, total_files, may_take, IsAtLeast, left}
use Rattle.ocfl_rules.specs.Trail.{content_trail, content_openings, unread_of}
use Rattle.ocfl_rules.proofs.{ApartLaws.{apart_texts, unread_is}, DueLaws.{audit_by_places}}
use Rattle.ocfl_rules.proofs.Lists.{map_filter}
use Rattle.ocfl_rules.proofs.PartLaws.{part_goes_on, within_is, places_within_is}
use Rattle.ocfl_rules.proofs.RunLaws.{cost_append, files_append}
use Rattle.ocfl_cursor.specs.Cursor.{State, start, behind, ended, Cursor}
use Rattle.ocfl_report.specs.declared.further.Further.{Further}
use Rattle.ocfl_scrub.specs.declared.stop.ReportStop.TheVariants.{Output}
use Rattle.ocfl_scrub.specs.Types.{ReportStop}
use Rattle.ocfl_scrub.specs.Call.{Call, known_call}
use Rattle.ocfl_scrub.specs.Joining.{PartRun, Ran, HasReport, AreOneCycle, cursor_after, is_taken, left_by, unread_by, unread_together, is_stopped, unstopped, items_out, reports_of, PartCycle, IsWholeCycle}
use Rattle.ocfl_scrub.specs.Running.{place_in, begun, begun_in, state_after, taken_in, RunsWithin, RunStopsWithin, RunEndsWithin, RunsFromWithin}
use Rattle.ocfl_scrub.specs.{Starting.{due_within, items_in}, Together.{state_at}, Written.{places}}
use Rattle.ocfl_scrub.specs.declared.running.RunEnd.{RunEnd}
use Rattle.ocfl_scrub.specs.declared.running.RunStatus.{RunStatus}
use Rattle.ocfl_scrub.specs.declared.running.RunStatus.TheVariants as status
use Rattle.ocfl_scrub.proofs.AuditLaws.{places_of_items}
use Rattle.ocfl_scrub.proofs.AuditsJoined.{hashed_are_among, failed_among, given_none, given_left, given_right, not_after, items_agree, agree_all}
use Rattle.ocfl_scrub.proofs.{ChainLaws.{place_there}, CutLaws.{IsStop, cut_and_left}}
use Rattle.ocfl_scrub.proofs.{Lists.{ascends_left}, PartStarts.{due_within_ascends}}
use Rattle.ocfl_scrub.proofs.PassLaws.{text_append, among_beyond, last_among}
use Rattle.ocfl_scrub.proofs.{PartLaws.{cut_stops}, RunLaws.{no_first, no_part}}
use Rattle.ocfl_scrub.proofs.RunPlaces.{front_is, rest_is, due_parts}

-- ---- what is given at a place that a test keeps

abbrev pub unread_places : Unread → List Place
unread_places u = map (λ (e : Place × ℕ). e.0) u

module _ (test : Place → Bool) (p : Place) where
  given_kept : (u : Unread) → test p ≡ true → given_by (filter (λ (e : Place × ℕ). test e.0) u) p ≡ given_by u p
  given_kept [] h = refl
  given_kept (e ∷ u) h = by (test e.0) refl (given_kept u h)
    where
      other : test e.0 ≡ false → (r : Ordering) → place_cmp e.0 p ≡ r → given_by u p ≡ cond (is_eq r) (Some e.1) (given_by u p)
      other f Less g = refl
      other f Equal g = absurd (true_not_false (sym h ∙ ap test (sym (place_cmp_exact e.0 p g)) ∙ f))
      other f Greater g = refl

      by : (b : Bool) → test e.0 ≡ b → given_by (filter (λ (d : Place × ℕ). test d.0) u) p ≡ given_by u p
          → given_by (cond b (e ∷ filter (λ (d : Place × ℕ). test d.0) u) (filter (λ (d : Place × ℕ). test d.0) u)) p ≡ given_by (e ∷ u) p
      by true f k = ap (cond (place_eq e.0 p) (Some e.1)) k
      by false f k = k ∙ other f (place_cmp e.0 p) refl

  kept_among : (u : Unread) → IsAmong (unread_places (filter (λ (e : Place × ℕ). test e.0) u)) p → IsAmong (unread_places u) p × (test p ≡ true)
  kept_among [] i = absurd i
  kept_among (e ∷ u) i = by (test e.0) refl i (kept_among u)
    where
      by : (b : Bool) → test e.0 ≡ b → IsAmong (unread_places (cond b (e ∷ filter (λ (d : Place × ℕ). test d.0) u) (filter (λ (d : Place × ℕ). test d.0) u))) p
          → (IsAmong (unread_places (filter (λ (d : Place × ℕ). test d.0) u)) p → IsAmong (unread_places u) p × (test p ≡ true)) → IsAmong (unread_places (e ∷ u)) p × (test p ≡ true)
      by true f (inl same) k = (inl same, ap test same ∙ f)
      by true f (inr j) k = let m = k j in (inr m.0, m.1)
      by false f j k = let m = k j in (inr m.0, m.1)

kept_all : (test : Place → Bool) (u : Unread) → ((p : Place) → IsAmong (unread_places u) p → test p ≡ true) → filter (λ (e : Place × ℕ). test e.0) u ≡ u
kept_all test [] h = refl
kept_all test (e ∷ u) h =
    ap (λ b. cond b (e ∷ filter (λ (d : Place × ℕ). test d.0) u) (filter (λ (d : Place × ℕ). test d.0) u)) (h e.0 (inl refl)) ∙ ap (λ v. e ∷ v) (kept_all test u (λ p i. h p (inr i)))

-- ---- how a run ended

ended_spent : status.Ended ≡ status.Spent → ⊥
ended_spent e = cc

spent_stopped : (why : ReportStop) → status.Spent ≡ status.Stopped why → ⊥
spent_stopped why e = cc

-- a run that left something has reached one of its limits
left_reached : (l : Limits) (s f c : ℕ) → may_take l s f c ≡ false → (l.budget ≤ s) ⊎ (l.files ≤ f)
left_reached l s f c h = by (c == 0) h
  where
    which : (p q : Bool) → nat_lt s l.budget ≡ p → nat_lt f l.files ≡ q → (p && q) ≡ false → (l.budget ≤ s) ⊎ (l.files ≤ f)
    which true true e g k = absurd (true_not_false k)
    which true false e g k = inr (ltb-false f l.files g)
    which false q e g k = inl (ltb-false s l.budget e)

    by : (t : Bool) → (t || (nat_lt s l.budget && nat_lt f l.files)) ≡ false → (l.budget ≤ s) ⊎ (l.files ≤ f)
    by true k = absurd (true_not_false k)
    by false k = which (nat_lt s l.budget) (nat_lt f l.files) refl refl k

reached_by : (l : Limits) (s f : ℕ) (items : List Item) (p : Place) → Some p ≡ slice_get (places items) 0 → IsStop l s f items → (l.budget ≤ s) ⊎ (l.files ≤ f)
reached_by l s f [] p e h = absurd cc
reached_by l s f (i ∷ items) p e h = left_reached l s f i.cost h

-- ---- how many runs did not stop

went_on : (r : PartRun) (rest : List PartRun) (end : RunStatus) → r.ran.end ≡ end → is_stopped end ≡ false → unstopped (r ∷ rest) ≡ suc (unstopped rest)
went_on r rest end e f =
    ap (λ w. length (cond (not (is_stopped w)) (r ∷ filter (λ q. not (is_stopped q.ran.end)) rest) (filter (λ q. not (is_stopped q.ran.end)) rest))) e
    ∙ ap (λ b. length (cond (not b) (r ∷ filter (λ q. not (is_stopped q.ran.end)) rest) (filter (λ q. not (is_stopped q.ran.end)) rest))) f

stopped_there : (r : PartRun) (rest : List PartRun) (why : ReportStop) → r.ran.end ≡ status.Stopped why → unstopped (r ∷ rest) ≡ unstopped rest
stopped_there r rest why e =
    ap (λ w. length (cond (not (is_stopped w)) (r ∷ filter (λ q. not (is_stopped q.ran.end)) rest) (filter (λ q. not (is_stopped q.ran.end)) rest))) e

-- how many of some runs did not stop, by what their items cost
record Counted (b n : ℕ) (runs : List PartRun) (items : List Item) : Type 0 where
  by_cost : ℕ
  by_files : ℕ
  at_end : ℕ
  count_is : unstopped runs ≡ by_cost + by_files + at_end
  once : at_end ≤ 1
  costs : by_cost * b ≤ total_cost items
  files : by_files * n ≤ total_files items

counted_none : (b n : ℕ) → Counted b n [] []
counted_none b n = record { by_cost = 0; by_files = 0; at_end = 0; count_is = refl; once = omega arith; costs = omega arith; files = omega arith }

module _ (b n : ℕ) (r : PartRun) (rest : List PartRun) (xs ys : List Item) (large : IsAtLeast b n r.limits) (m : Counted b n rest ys) where
  counted_more : (by_cost by_files : ℕ) → unstopped (r ∷ rest) ≡ by_cost + by_files + m.at_end → by_cost * b ≤ total_cost xs + m.by_cost * b
      → by_files * n ≤ total_files xs + m.by_files * n → Counted b n (r ∷ rest) (xs ++ ys)
  counted_more by_cost by_files count costs files =
      let c = cost_append xs ys in
      let f = files_append xs ys in
      let low = m.costs in
      let lower = m.files in
      record {
        by_cost = by_cost;
        by_files = by_files;
        at_end = m.at_end;
        count_is = count;
        once = m.once;
        costs = omega (arith, c, low, costs);
        files = omega (arith, f, lower, files);
      }

  -- one that was ended by its limits
  counted_spent : r.ran.end ≡ status.Spent → (r.limits.budget ≤ total_cost xs) ⊎ (r.limits.files ≤ total_files xs) → Counted b n (r ∷ rest) (xs ++ ys)
  counted_spent e (inl p) =
      let more = went_on r rest status.Spent e refl in
      let k = m.count_is in
      let one = suc-mul m.by_cost b in
      let least = large.budget in
      counted_more (suc m.by_cost) m.by_files (omega (arith, more, k)) (omega (arith, one, least, p)) (omega arith)
  counted_spent e (inr p) =
      let more = went_on r rest status.Spent e refl in
      let k = m.count_is in
      let one = suc-mul m.by_files n in
      let least = large.files in
      counted_more m.by_cost (suc m.by_files) (omega (arith, more, k)) (omega arith) (omega (arith, one, least, p))

  counted_stopped : (why : ReportStop) → r.ran.end ≡ status.Stopped why → Counted b n (r ∷ rest) (xs ++ ys)
  counted_stopped why e = counted_more m.by_cost m.by_files (stopped_there r rest why e ∙ m.count_is) (omega arith) (omega arith)

counted_ended : (b n : ℕ) (r : PartRun) (xs : List Item) → r.ran.end ≡ status.Ended → Counted b n (r ∷ []) xs
counted_ended b n r xs e = record {
  by_cost = 0;
  by_files = 0;
  at_end = 1;
  count_is = went_on r [] status.Ended e refl;
  once = omega arith;
  costs = omega arith;
  files = omega arith;
}

-- ---- what was taken

less_true : (r : Ordering) → r ≡ Less → is_lt r ≡ true
less_true r e = ap is_lt e

-- each of some places in order is taken if the cursor is after the last
taken_to_last : (from : Option Place) (ps : List Place) (p : Place) → IsAscending place_cmp ps → IsAmong ps p → is_taken (state_at (last_or from ps)) p ≡ true
taken_to_last from [] p up i = absurd i
taken_to_last from (x ∷ xs) p up (inr i) = taken_to_last (Some x) xs p up.1 i
taken_to_last from (x ∷ xs) p up (inl e) = subst (λ o. is_taken (state_at o) p ≡ true) (sym last.1.0) (ap not (by last.1.1))
  where
    last : (q : Place) × ((last_or (Some x) xs ≡ Some q) × IsAmong (x ∷ xs) q)
    last = last_among x xs

    by : IsAmong (x ∷ xs) last.0 → is_lt (place_cmp last.0 p) ≡ false
    by (inl f) = ap (λ q. is_lt (place_cmp q p)) (f ∙ sym e) ∙ not_less_itself place_cmp_total p
    by (inr j) = not_less (place_cmp last.0 p) (λ g. not_both_below place_cmp_total last.0 x (subst (λ z. place_cmp last.0 z ≡ Less) e g) (before_each place_cmp x xs up.0 last.0 j))

module _ (further : Further) (root : StorageRoot) (part : Part) where
  -- and none of those that are due
  due_not_taken : (last : Option Place) (p : Place) → IsAmong (due_within further root part last) p → is_taken (state_at last) p ≡ false
  due_not_taken None p i = refl
  due_not_taken (Some q) p i = ap not (less_true (place_cmp q p) (beyond (among_from_within (due further root (Some q)) i)))
    where
      among_from_within : (ps : List Place) → IsAmong (places_within part ps) p → IsAmong ps p
      among_from_within ps j = (among_from_filter (lies_in part) ps p (subst (λ zs. IsAmong zs p) (places_within_is part ps) j)).0

      beyond : IsAmong (due further root (Some q)) p → place_cmp q p ≡ Less
      beyond j = among_beyond further root (Some q) p j

  -- ---- the audit of a part above a place, by its places

  after_by : (unread : Unread) (last : Option Place) → after (audit further root unread) last ≡ map (item_of further root unread) (due further root last)
  unfolding due
  after_by unread None = audit_by_places further root unread
  after_by unread (Some p) =
      ap (λ is. after is (Some p)) (audit_by_places further root unread) ∙ map_filter (λ i. is_lt (place_cmp p i.place)) (item_of further root unread) (item_places further root)

  above_by : (unread : Unread) (last : Option Place) → after (within part (audit further root unread)) last ≡ map (item_of further root unread) (due_within further root part last)
  above_by unread last =
      part_goes_on part last (audit further root unread) ∙ ap (within part) (after_by unread last) ∙ within_is part (map (item_of further root unread) (due further root last))
      ∙ map_filter (λ i. lies_in part i.place) (item_of further root unread) (due further root last) ∙ ap (map (item_of further root unread)) (sym (places_within_is part (due further root last)))

  -- ---- one run

  -- the places that a run took, and what it wrote of them, with what it could not read
  record Takes (c : Cursor) (r : PartRun) : Type 0 where
    done : List Place
    last : Option Place
    due_are : due_within further root part (place_in c.state) ≡ done ++ due_within further root part last
    report : r.report ≡ text (map (item_of further root (unread_of further root r.opened)) done)
    taken : (p : Place) → IsAmong done p → is_taken r.ran.cursor.state p ≡ true
    among : (p : Place) → is_taken r.ran.cursor.state p ≡ true → IsAmong (unread_places (unread_of further root r.opened)) p → IsAmong done p
    ends : (r.ran.cursor.state ≡ state_at last) ⊎ ((r.ran.cursor.state ≡ ended) × (due_within further root part last ≡ []))
    goes_on : r.ran.end ≢ status.Ended → place_in r.ran.cursor.state ≡ last
    spends : r.ran.end ≡ status.Spent → (r.limits.budget ≤ total_cost (map (item_of further root (unread_of further root r.opened)) done))
        ⊎ (r.limits.files ≤ total_files (map (item_of further root (unread_of further root r.opened)) done))

  items_are : (os : List Opening) (ps : List Place) → items_at further root os ps ≡ map (item_of further root (unread_of further root os)) ps
  unfolding items_at
  items_are os ps = refl

  -- of its openings of content, those at places that it audited
  opened_there : (os : List Opening) (ps : List Place) (p : Place) → content_trail further root os ≡ hashed_among further root ps → IsAmong (unread_places (unread_of further root os)) p → IsAmong ps p
  opened_there os ps p e i = hashed_are_among further root ps p (subst (λ qs. IsAmong qs p) e (failed_among (content_openings further root os) p i))

  module _ (c : Cursor) (r : PartRun) (w : Ran further root part c r) where
    abbrev from : Option Place
    from = place_in c.state

    abbrev call : Call
    call = known_call further root w.before w.behind w.old (w.old ++ (r.report ++ w.cut))

    abbrev last : Option Place
    last = w.runs.last

    trail_is : (os : List Opening) → w.behind.openings ≡ w.before.openings ++ os → os ≡ r.opened
    trail_is os e = sym (append_cancel_left w.before.openings r.opened os (sym w.opened_is ∙ e))

    state_is : (end : RunStatus) → r.ran.end ≡ end → r.ran.cursor.state ≡ state_after end last
    state_is end e = ap (λ x. x.state) w.runs.cursor_is ∙ ap (λ x. state_after x last) e

    -- the first of what was due
    module _ (os : List Opening) (out rest : List Item) (split : items_in further root os part from ≡ out ++ rest) (last_is : last ≡ last_or from (places out))
        (same : os ≡ r.opened) where
      abbrev done : List Place
      done = places out

      due_parts_are : due_within further root part from ≡ done ++ due_within further root part last
      due_parts_are = due_parts further root part os from out rest split ∙ ap (λ l. done ++ due_within further root part l) (sym last_is)

      up : IsAscending place_cmp done
      up = ascends_left place_cmp done (due_within further root part last) (subst (IsAscending place_cmp) due_parts_are (due_within_ascends further root part from))

      out_is : out ≡ map (item_of further root (unread_of further root r.opened)) done
      out_is = sym (front_is further root part os from out rest split) ∙ items_are os done ∙ ap (λ t. map (item_of further root (unread_of further root t)) done) same

      taken_before : (p : Place) → IsAmong done p → is_taken (state_at last) p ≡ true
      taken_before p i = subst (λ l. is_taken (state_at l) p ≡ true) (sym last_is) (taken_to_last from done p up i)

    -- it took the cut
    cut_split : (os : List Opening) → items_in further root os part from ≡ taken_in further root os part from r.limits ++ left (items_in further root os part from) r.limits
    cut_split os = sym (cut_and_left (items_in further root os part from) r.limits)

    ended_takes : (h : RunsWithin call part from last r.limits r.ran.spent r.ran.files r.ran.found None) → r.report ≡ text (taken_in further root h.trail part from r.limits)
        → r.ran.end ≡ status.Ended → Takes c r
    ended_takes h report e =
        let same = trail_is h.trail h.looks.audits.did.openings_are in
        let out : List Item = taken_in further root h.trail part from r.limits in
        let rest : List Item = left (items_in further root h.trail part from) r.limits in
        let split = cut_split h.trail in
        let state : r.ran.cursor.state ≡ ended = state_is status.Ended e in
        let none : due_within further root part last ≡ [] = sym (places_of_items further root h.trail (due_within further root part last))
        ∙ ap (λ l. places (items_at further root h.trail (due_within further root part l))) h.last_is ∙ ap places (rest_is further root part h.trail from out rest split) ∙ ap places (no_first rest h.next_is) in
        record {
          done = places out;
          last = last;
          due_are = due_parts_are h.trail out rest split h.last_is same;
          report = report ∙ ap text (out_is h.trail out rest split h.last_is same);
          taken = λ p i. ap (λ s. is_taken s p) state;
          among = λ p t i. opened_there r.opened (places out) p (subst (λ os. content_trail further root os ≡ hashed_among further root (places out)) same h.looks.audits.opened) i;
          ends = inr (state, none);
          goes_on = λ f. absurd (f e);
          spends = λ f. absurd (ended_spent (sym e ∙ f));
        }

    spent_takes : (next : Place) (h : RunsWithin call part from last r.limits r.ran.spent r.ran.files r.ran.found (Some next)) → r.report ≡ text (taken_in further root h.trail part from r.limits)
        → r.ran.end ≡ status.Spent → Takes c r
    spent_takes next h report e =
        let same = trail_is h.trail h.looks.audits.did.openings_are in
        let out : List Item = taken_in further root h.trail part from r.limits in
        let rest : List Item = left (items_in further root h.trail part from) r.limits in
        let split = cut_split h.trail in
        let state : r.ran.cursor.state ≡ state_at last = state_is status.Spent e in
        record {
          done = places out;
          last = last;
          due_are = due_parts_are h.trail out rest split h.last_is same;
          report = report ∙ ap text (out_is h.trail out rest split h.last_is same);
          taken = λ p i. ap (λ s. is_taken s p) state ∙ taken_before h.trail out rest split h.last_is same p i;
          among = λ p t i. opened_there r.opened (places out) p (subst (λ os. content_trail further root os ≡ hashed_among further root (places out)) same h.looks.audits.opened) i;
          ends = inl state;
          goes_on = λ f. ap place_in state ∙ place_there last;
          spends = λ f. subst (λ is. (r.limits.budget ≤ total_cost is) ⊎ (r.limits.files ≤ total_files is)) (out_is h.trail out rest split h.last_is same)
              (reached_by r.limits (total_cost out) (total_files out) rest next h.next_is (cut_stops r.limits (items_in further root h.trail part from)));
        }

    -- it stopped, maybe in a further one
    module _ (why : ReportStop) (h : RunStopsWithin call part from last r.limits r.ran.spent r.ran.files r.ran.found why) where
      abbrev unwritten : List Item
      unwritten = h.stops.others ++ left (items_in further root h.trail part from) r.limits

      abbrev unbegun : List Place
      unbegun = (h.stops.one.0 ++ places (drop 1 h.stops.others)) ++ places (left (items_in further root h.trail part from) r.limits)

      stop_split : items_in further root h.trail part from ≡ h.stops.whole ++ unwritten
      stop_split = sym (cut_and_left (items_in further root h.trail part from) r.limits) ∙ ap (λ is. is ++ left (items_in further root h.trail part from) r.limits) h.stops.items_are
          ∙ append_assoc h.stops.whole h.stops.others (left (items_in further root h.trail part from) r.limits)

      next_first : places h.stops.others ≡ h.stops.begun ++ (h.stops.one.0 ++ places (drop 1 h.stops.others))
      next_first = ap places (sym (take-append-drop 1 h.stops.others)) ∙ map-append (λ i. i.place) (take 1 h.stops.others) (drop 1 h.stops.others)
          ∙ ap (λ ps. ps ++ places (drop 1 h.stops.others)) h.stops.one.1 ∙ append_assoc h.stops.begun h.stops.one.0 (places (drop 1 h.stops.others))

      due_next : due_within further root part last ≡ h.stops.begun ++ unbegun
      due_next = ap (due_within further root part) h.stops.last_is ∙ sym (places_of_items further root h.trail (due_within further root part (last_or from (places h.stops.whole))))
          ∙ ap places (rest_is further root part h.trail from h.stops.whole unwritten stop_split)
          ∙ map-append (λ i. i.place) h.stops.others (left (items_in further root h.trail part from) r.limits)
          ∙ ap (λ ps. ps ++ places (left (items_in further root h.trail part from) r.limits)) next_first
          ∙ append_assoc h.stops.begun (h.stops.one.0 ++ places (drop 1 h.stops.others)) (places (left (items_in further root h.trail part from) r.limits))

      stopped_takes : r.report ≡ text h.stops.whole → r.ran.end ≡ status.Stopped why → Takes c r
      stopped_takes report e =
          let k = h.stops in
          let same = trail_is h.trail h.looks.fails.did.openings_are in
          let state : r.ran.cursor.state ≡ state_at last = state_is (status.Stopped why) e in
          record {
            done = places k.whole;
            last = last;
            due_are = due_parts_are h.trail k.whole unwritten stop_split k.last_is same;
            report = report ∙ ap text (out_is h.trail k.whole unwritten stop_split k.last_is same);
            taken = λ p i. ap (λ s. is_taken s p) state ∙ taken_before h.trail k.whole unwritten stop_split k.last_is same p i;
            among = λ p t i. not_begun (places k.whole) k.begun unbegun p due_next (sym (ap (λ s. is_taken s p) state) ∙ t)
                (among_either (places k.whole) k.begun p (opened_there r.opened (places k.whole ++ k.begun) p
                (subst (λ os. content_trail further root os ≡ hashed_among further root (places k.whole ++ k.begun)) same h.looks.fails.opened) i));
            ends = inl state;
            goes_on = λ f. ap place_in state ∙ place_there last;
            spends = λ f. absurd (spent_stopped why (sym f ∙ e));
          }
        where
          not_begun : (ps begun rest : List Place) (p : Place) → due_within further root part last ≡ begun ++ rest → is_taken (state_at last) p ≡ true → IsAmong ps p ⊎ IsAmong begun p → IsAmong ps p
          not_begun ps begun rest p e t (inl j) = j
          not_begun ps begun rest p e t (inr j) =
              absurd (true_not_false (sym t ∙ due_not_taken last p (subst (λ qs. IsAmong qs p) (sym e) (among_left begun rest p j))))

    run_takes : Takes c r
    run_takes = by r.ran.end refl w.runs.run w.report_is
      where
        by : (end : RunStatus) → r.ran.end ≡ end → (run : RunEndsWithin call part from last r.limits r.ran.spent r.ran.files r.ran.found end)
            → r.report ≡ text (items_out call part from last r.limits r.ran.spent r.ran.files r.ran.found end run) → Takes c r
        by status.Ended e run report = ended_takes run report e
        by status.Spent e run report = spent_takes run.0 run.1 report e
        by (status.Stopped why) e run report = stopped_takes why run report e
        by status.Worn e run report = absurd run

    -- each content file that it opened was due
    abbrev AreDue : Type 0
    AreDue = (p : Place) → IsAmong (content_trail further root r.opened) p → IsAmong (due_within further root part from) p

    due_there : (os : List Opening) (ps rest : List Place) → due_within further root part from ≡ ps ++ rest → os ≡ r.opened → content_trail further root os ≡ hashed_among further root ps → AreDue
    due_there os ps rest split same opened p i =
        let there = subst (λ qs. IsAmong qs p) (ap (content_trail further root) (sym same) ∙ opened) i in
        subst (λ qs. IsAmong qs p) (sym split) (among_left ps rest p (hashed_are_among further root ps p there))

    pub opens_due : AreDue
    opens_due = by r.ran.end w.runs.run
      where
        took : (next : Option Place) → RunsWithin call part from last r.limits r.ran.spent r.ran.files r.ran.found next → AreDue
        took next h =
            let same = trail_is h.trail h.looks.audits.did.openings_are in
            let out : List Item = taken_in further root h.trail part from r.limits in
            due_there h.trail (places out) (due_within further root part last)
            (due_parts_are h.trail out (left (items_in further root h.trail part from) r.limits) (cut_split h.trail) h.last_is same) same h.looks.audits.opened

        stopped : (why : ReportStop) → RunStopsWithin call part from last r.limits r.ran.spent r.ran.files r.ran.found why → AreDue
        stopped why h =
            let same = trail_is h.trail h.looks.fails.did.openings_are in
            due_there h.trail (places h.stops.whole ++ h.stops.begun) (unbegun why h)
            (due_parts_are h.trail h.stops.whole (unwritten why h) (stop_split why h) h.stops.last_is same
            ∙ ap (λ ps. places h.stops.whole ++ ps) (due_next why h) ∙ sym (append_assoc (places h.stops.whole) h.stops.begun (unbegun why h))) same h.looks.fails.opened

        by : (end : RunStatus) → RunEndsWithin call part from last r.limits r.ran.spent r.ran.files r.ran.found end → AreDue
        by status.Ended run = took None run
        by status.Spent run = took (Some run.0) run.1
        by (status.Stopped why) run = stopped why run
        by status.Worn run = absurd run

    -- so nothing that its cursor had taken is opened again
    pub opens_beyond : (p : Place) → IsAmong (content_trail further root r.opened) p → is_taken (begun c).state p ≡ false
    opens_beyond p i = by c.state refl (due_not_taken from p (opens_due p i))
      where
        by : (s : State) → c.state ≡ s → is_taken (state_at (place_in s)) p ≡ false → is_taken (begun_in c s).state p ≡ false
        by start e h = ap (λ x. is_taken x p) e
        by (behind q) e h = ap (λ x. is_taken x p) e ∙ h
        by ended e h = refl

  -- ---- runs one after the other

  record TakesAll (c : Cursor) (runs : List PartRun) : Type 0 where
    done : List Place
    last : Option Place
    due_are : due_within further root part (place_in c.state) ≡ done ++ due_within further root part last
    reports : reports_of runs ≡ text (map (item_of further root (unread_together further root runs)) done)
    among : (p : Place) → IsAmong (unread_places (unread_together further root runs)) p → IsAmong done p
    ends : ((cursor_after c runs).state ≡ state_at last) ⊎ (((cursor_after c runs).state ≡ ended) × (due_within further root part last ≡ []))
    counts : (b n : ℕ) → 1 ≤ b → 1 ≤ n → All (IsAtLeast b n) (map (λ r. r.limits) runs) → Counted b n runs (map (item_of further root (unread_together further root runs)) done)

  -- a run that did not end the cycle, and those that follow
  module _ (c : Cursor) (r : PartRun) (k : Takes c r) where
    abbrev unread : Unread
    unread = unread_of further root r.opened

    abbrev own : Unread
    own = unread_by further root r

    own_among : (p : Place) → IsAmong (unread_places own) p → IsAmong k.done p
    own_among p i = let m = kept_among (is_taken r.ran.cursor.state) p unread i in k.among p m.1 m.0

    -- what is after its cursor is not among its items
    own_items : map (item_of further root own) k.done ≡ map (item_of further root unread) k.done
    own_items = items_agree further root own unread k.done (agree_all own unread k.done (λ p i. given_kept (is_taken r.ran.cursor.state) p unread (k.taken p i)))

    module _ (later : Unread) (next : List Place) (up : IsAscending place_cmp (k.done ++ next)) (later_among : (p : Place) → IsAmong (unread_places later) p → IsAmong next p) where
      first_items : map (item_of further root (own ++ later)) k.done ≡ map (item_of further root own) k.done
      first_items = items_agree further root (own ++ later) own k.done
          (agree_all (own ++ later) own k.done (λ p i. given_left p own later (given_none p later (λ j. not_after k.done next p up i (later_among p j)))))

      next_items : map (item_of further root (own ++ later)) next ≡ map (item_of further root later) next
      next_items = items_agree further root (own ++ later) later next (agree_all (own ++ later) later next (λ p i. given_right p own later (λ j. not_after k.done next p up (own_among p j) i)))

      both_items : map (item_of further root (own ++ later)) (k.done ++ next) ≡ map (item_of further root unread) k.done ++ map (item_of further root later) next
      both_items = map-append (item_of further root (own ++ later)) k.done next ∙ ap (λ is. is ++ map (item_of further root (own ++ later)) next) (first_items ∙ own_items)
          ∙ ap (λ is. map (item_of further root unread) k.done ++ is) next_items

      both_among : (p : Place) → IsAmong (unread_places (own ++ later)) p → IsAmong (k.done ++ next) p
      both_among p i = by (among_either (unread_places own) (unread_places later) p (subst (λ ps. IsAmong ps p) (map-append (λ (e : Place × ℕ). e.0) own later) i))
        where
          by : IsAmong (unread_places own) p ⊎ IsAmong (unread_places later) p → IsAmong (k.done ++ next) p
          by (inl j) = among_left k.done next p (own_among p j)
          by (inr j) = among_right k.done next p (later_among p j)

  counted_run : (c : Cursor) (r : PartRun) (w : Ran further root part c r) (k : Takes c r) (rest : List PartRun) (ys : List Item) (b n : ℕ) → IsAtLeast b n r.limits
      → r.ran.end ≢ status.Ended → Counted b n rest ys → Counted b n (r ∷ rest) (map (item_of further root (unread_of further root r.opened)) k.done ++ ys)
  counted_run c r w k rest ys b n large going m = by r.ran.end refl w.runs.run
    where
      by : (end : RunStatus) → r.ran.end ≡ end
          → RunEndsWithin (known_call further root w.before w.behind w.old (w.old ++ (r.report ++ w.cut))) part (place_in c.state) w.runs.last r.limits r.ran.spent r.ran.files r.ran.found end
          → Counted b n (r ∷ rest) (map (item_of further root (unread_of further root r.opened)) k.done ++ ys)
      by status.Ended e run = absurd (going e)
      by status.Spent e run = counted_spent b n r rest (map (item_of further root (unread_of further root r.opened)) k.done) ys large m e (k.spends e)
      by (status.Stopped why) e run = counted_stopped b n r rest (map (item_of further root (unread_of further root r.opened)) k.done) ys large m why e
      by status.Worn e run = absurd run

  counted_last : (c : Cursor) (r : PartRun) (w : Ran further root part c r) (k : Takes c r) (b n : ℕ) → IsAtLeast b n r.limits → Counted b n (r ∷ []) (map (item_of further root (unread_of further root r.opened)) k.done)
  counted_last c r w k b n large = by r.ran.end refl w.runs.run
    where
      items : List Item
      items = map (item_of further root (unread_of further root r.opened)) k.done

      with_none : Counted b n (r ∷ []) (items ++ []) → Counted b n (r ∷ []) items
      with_none h = subst (Counted b n (r ∷ [])) (append-nil items) h

      by : (end : RunStatus) → r.ran.end ≡ end
          → RunEndsWithin (known_call further root w.before w.behind w.old (w.old ++ (r.report ++ w.cut))) part (place_in c.state) w.runs.last r.limits r.ran.spent r.ran.files r.ran.found end
          → Counted b n (r ∷ []) items
      by status.Ended e run = counted_ended b n r items e
      by status.Spent e run = with_none (counted_spent b n r [] items [] large (counted_none b n) e (k.spends e))
      by (status.Stopped why) e run = with_none (counted_stopped b n r [] items [] large (counted_none b n) why e)
      by status.Worn e run = absurd run

  takes_all : (c : Cursor) (runs : List PartRun) → AreOneCycle further root part c runs → TakesAll c runs
  takes_all c [] h = absurd h
  takes_all c (r ∷ []) h =
      let k : Takes c r = run_takes c r h in
      let own_is : unread_together further root (r ∷ []) ≡ unread_by further root r = append-nil (unread_by further root r) in
      let items_is : map (item_of further root (unread_together further root (r ∷ []))) k.done ≡ map (item_of further root (unread_of further root r.opened)) k.done =
      ap (λ u. map (item_of further root u) k.done) own_is ∙ own_items c r k in
      record {
        done = k.done;
        last = k.last;
        due_are = k.due_are;
        reports = append-nil r.report ∙ k.report ∙ ap text (sym items_is);
        among = λ p i. own_among c r k p (subst (λ u. IsAmong (unread_places u) p) own_is i);
        ends = k.ends;
        counts = λ b n x y large. subst (Counted b n (r ∷ [])) (sym items_is) (counted_last c r h k b n (All-head (IsAtLeast b n) r.limits [] large));
      }
  takes_all c (r ∷ q ∷ rest) h =
      let k : Takes c r = run_takes c r h.0 in
      let m : TakesAll r.ran.cursor (q ∷ rest) = takes_all r.ran.cursor (q ∷ rest) h.1.1 in
      let later : Unread = unread_together further root (q ∷ rest) in
      let due_then : due_within further root part k.last ≡ m.done ++ due_within further root part m.last = ap (due_within further root part) (sym (k.goes_on h.1.0)) ∙ m.due_are in
      let due_are : due_within further root part (place_in c.state) ≡ (k.done ++ m.done) ++ due_within further root part m.last =
      k.due_are ∙ ap (λ ps. k.done ++ ps) due_then ∙ sym (append_assoc k.done m.done (due_within further root part m.last)) in
      let up : IsAscending place_cmp (k.done ++ m.done) = ascends_left place_cmp (k.done ++ m.done) (due_within further root part m.last)
      (subst (IsAscending place_cmp) due_are (due_within_ascends further root part (place_in c.state))) in
      let first : List Item = map (item_of further root (unread_of further root r.opened)) k.done in
      let second : List Item = map (item_of further root later) m.done in
      let both : map (item_of further root (unread_by further root r ++ later)) (k.done ++ m.done) ≡ first ++ second = both_items c r k later m.done up m.among in
      record {
        done = k.done ++ m.done;
        last = m.last;
        due_are = due_are;
        reports = ap (λ x. x ++ reports_of (q ∷ rest)) k.report ∙ ap (λ x. text first ++ x) m.reports ∙ sym (text_append first second) ∙ ap text (sym both);
        among = both_among c r k later m.done up m.among;
        ends = m.ends;
        counts = λ b n x y large. subst (Counted b n (r ∷ q ∷ rest)) (sym both)
            (counted_run c r h.0 k (q ∷ rest) second b n (All-head (IsAtLeast b n) r.limits (map (λ z. z.limits) (q ∷ rest)) large) h.1.0
            (m.counts b n x y (All-tail (IsAtLeast b n) r.limits (map (λ z. z.limits) (q ∷ rest)) large)));
      }

  -- ---- from the first item on

  module _ (c : Cursor) (runs : List PartRun) (fresh : place_in c.state ≡ None) (h : AreOneCycle further root part c runs) where
    all : TakesAll c runs
    all = takes_all c runs h

    abbrev unread_all : Unread
    unread_all = unread_together further root runs

    abbrev items_all : List Item
    items_all = within part (audit further root unread_all)

    items_parts : items_all ≡ map (item_of further root unread_all) all.done ++ map (item_of further root unread_all) (due_within further root part all.last)
    items_parts =
        above_by unread_all None ∙ ap (map (item_of further root unread_all)) (ap (due_within further root part) (sym fresh) ∙ all.due_are)
        ∙ map-append (item_of further root unread_all) all.done (due_within further root part all.last)

    left_at : (last : Option Place) → left_by (state_at last) items_all ≡ map (item_of further root unread_all) (due_within further root part last)
    left_at None = above_by unread_all None
    left_at (Some p) = above_by unread_all (Some p)

    left_is : left_by (cursor_after c runs).state items_all ≡ map (item_of further root unread_all) (due_within further root part all.last)
    left_is = by all.ends
      where
        by : ((cursor_after c runs).state ≡ state_at all.last) ⊎ (((cursor_after c runs).state ≡ ended) × (due_within further root part all.last ≡ []))
            → left_by (cursor_after c runs).state items_all ≡ map (item_of further root unread_all) (due_within further root part all.last)
        by (inl e) = ap (λ s. left_by s items_all) e ∙ left_at all.last
        by (inr e) = ap (λ s. left_by s items_all) e.0 ∙ ap (map (item_of further root unread_all)) (sym e.1)

    pub reports_and_rest : reports_of runs ++ text (left_by (cursor_after c runs).state (within part (audit further root (unread_together further root runs))))
        ≡ text (within part (audit further root (unread_together further root runs)))
    reports_and_rest =
        ap (λ x. x ++ text (left_by (cursor_after c runs).state items_all)) all.reports ∙ ap (λ is. text (map (item_of further root unread_all) all.done) ++ text is) left_is
        ∙ sym (text_append (map (item_of further root unread_all) all.done) (map (item_of further root unread_all) (due_within further root part all.last))) ∙ ap text (sym items_parts)

    pub reports_whole : (cursor_after c runs).state ≡ ended → reports_of runs ≡ text (within part (audit further root (unread_together further root runs)))
    reports_whole e = sym (append-nil (reports_of runs)) ∙ ap (λ s. reports_of runs ++ text (left_by s items_all)) (sym e) ∙ reports_and_rest

    -- what could not be read is in the part
    pub unread_inside : unread_in part (unread_together further root runs) ≡ unread_together further root runs
    unread_inside = unread_is part unread_all ∙ kept_all (lies_in part) unread_all (λ p i. inside p (all.among p i))
      where
        inside : (p : Place) → IsAmong all.done p → lies_in part p ≡ true
        inside p i = (among_from_filter (lies_in part) (due further root (place_in c.state)) p (subst (λ ps. IsAmong ps p) (places_within_is part (due further root (place_in c.state)))
            (subst (λ ps. IsAmong ps p) (sym all.due_are) (among_left all.done (due_within further root part all.last) p i)))).1

    pub runs_few : (b n : ℕ) → 1 ≤ b → 1 ≤ n → All (IsAtLeast b n) (map (λ r. r.limits) runs)
        → unstopped runs ≤ total_cost (within part (audit further root (unread_together further root runs))) / b + total_files (within part (audit further root (unread_together further root runs))) / n + 1
    runs_few b n p q large =
        let m = all.counts b n p q large in
        let xs : List Item = map (item_of further root unread_all) all.done in
        let ys : List Item = map (item_of further root unread_all) (due_within further root part all.last) in
        let c_is : total_cost items_all ≡ total_cost xs + total_cost ys = ap total_cost items_parts ∙ cost_append xs ys in
        let f_is : total_files items_all ≡ total_files xs + total_files ys = ap total_files items_parts ∙ files_append xs ys in
        let x = m.costs in
        let y = m.files in
        let d = le-div m.by_cost (total_cost items_all) b p (omega (arith, c_is, x)) in
        let e = le-div m.by_files (total_files items_all) n q (omega (arith, f_is, y)) in
        let k = m.count_is in
        let o = m.once in
        omega (arith, d, e, k, o)

-- ---- all parts

module _ (further : Further) (root : StorageRoot) where
  abbrev apart : List PartCycle → List (Part × Unread)
  apart ds = map (λ d. (d.part, unread_together further root d.runs)) ds

  each_report : (ds : List PartCycle) → AllByRecursion (IsWholeCycle further root) ds → flat_map (λ d. reports_of d.runs) ds ≡ flat_map (λ e. text (within e.0 (audit further root e.1))) (apart ds)
  each_report [] h = refl
  each_report (d ∷ ds) h = ap (λ x. x ++ flat_map (λ e. reports_of e.runs) ds) (reports_whole further root d.part d.first d.runs h.0.starts h.0.are h.0.ends)
      ∙ ap (λ x. text (within d.part (audit further root (unread_together further root d.runs))) ++ x) (each_report ds h.1)

  parts_same : (ds : List PartCycle) → map (λ e. e.0) (apart ds) ≡ map (λ d. d.part) ds
  parts_same [] = refl
  parts_same (d ∷ ds) = ap (λ ps. d.part ∷ ps) (parts_same ds)

  unread_same : (ds : List PartCycle) → AllByRecursion (IsWholeCycle further root) ds → together (apart ds) ≡ flat_map (λ d. unread_together further root d.runs) ds
  unread_same [] h = refl
  unread_same (d ∷ ds) h = ap (λ u. u ++ together (apart ds)) (unread_inside further root d.part d.first d.runs h.0.starts h.0.are)
      ∙ ap (λ u. unread_together further root d.runs ++ u) (unread_same ds h.1)

  pub parts_reports : (separators : List Place) (ds : List PartCycle) → IsAscending place_cmp separators → map (λ d. d.part) ds ≡ parts_of separators → AllByRecursion (IsWholeCycle further root) ds
      → flat_map (λ d. reports_of d.runs) ds ≡ text (audit further root (flat_map (λ d. unread_together further root d.runs) ds))
  parts_reports separators ds up are done =
      each_report ds done ∙ apart_texts further root (apart ds) separators up (parts_same ds ∙ are) ∙ ap (λ u. text (audit further root u)) (unread_same ds done)

-- ---- each run has a report

module _ (further : Further) (root : StorageRoot) (s t : Store) (old : Text) (part : Part) (c : Cursor) (l : Limits) where
  ran_by : (ran : RunEnd) (report cut : Text) (opened : List Opening) (new : Text) → old ++ (report ++ cut) ≡ new → t.openings ≡ s.openings ++ opened
      → (h : RunsFromWithin (known_call further root s t old new) part c l ran)
      → report ≡ text (items_out (known_call further root s t old new) part (place_in c.state) h.last l ran.spent ran.files ran.found ran.end h.run)
      → Ran further root part c (record { limits = l; report = report; opened = opened; ran = ran })
  ran_by ran report cut opened new e openings =
      subst (λ x. (h : RunsFromWithin (known_call further root s t old x) part c l ran)
      → report ≡ text (items_out (known_call further root s t old x) part (place_in c.state) h.last l ran.spent ran.files ran.found ran.end h.run)
      → Ran further root part c (record { limits = l; report = report; opened = opened; ran = ran })) e
      (λ h is. record { before = s; behind = t; old = old; cut = cut; runs = h; report_is = is; opened_is = openings })

-- what went out of a run's text besides the lines of its items
pub record Report (s t : Store) (old new report : Text) (end : RunStatus) : Type 0 where
  pub cut : Text
  pub wrote : new ≡ old ++ (report ++ cut)
  pub uncut : end ≢ status.Stopped Output → cut ≡ []
  pub opened : List Opening
  pub opened_is : t.openings ≡ s.openings ++ opened

module _ (further : Further) (root : StorageRoot) (s t : Store) (old new : Text) (part : Part) (c : Cursor) (l : Limits) (reached : Cursor) (spent files : ℕ) (finding : Bool) where
  abbrev end_with : RunStatus → RunEnd
  end_with end = record { cursor = reached; spent = spent; files = files; found = finding; end = end }

  pub report_at : (end : RunStatus) (h : RunsFromWithin (known_call further root s t old new) part c l (end_with end))
      → Report s t old new (text (items_out (known_call further root s t old new) part (place_in c.state) h.last l spent files finding end h.run)) end
  report_at status.Ended h = record {
    cut = [];
    wrote = h.run.wrote ∙ ap (λ x. old ++ x) (sym (append-nil (text (taken_in further root h.run.trail part (place_in c.state) l))));
    uncut = λ f. refl;
    opened = h.run.trail;
    opened_is = h.run.looks.audits.did.openings_are;
  }
  report_at status.Spent h = record {
    cut = [];
    wrote = h.run.1.wrote ∙ ap (λ x. old ++ x) (sym (append-nil (text (taken_in further root h.run.1.trail part (place_in c.state) l))));
    uncut = λ f. refl;
    opened = h.run.1.trail;
    opened_is = h.run.1.looks.audits.did.openings_are;
  }
  report_at (status.Stopped why) h = record {
    cut = h.run.stops.part;
    wrote = h.run.stops.wrote;
    uncut = λ f. no_part why (λ e. f (ap status.Stopped e)) (text (take 1 h.run.stops.others)) h.run.stops.part h.run.stops.part_of;
    opened = h.run.trail;
    opened_is = h.run.looks.fails.did.openings_are;
  }
  report_at status.Worn h = absurd h.run

pub has_report : (further : Further) (root : StorageRoot) (s t : Store) (old new : Text) (part : Part) (c : Cursor) (l : Limits) (ran : RunEnd)
    → RunsFromWithin (known_call further root s t old new) part c l ran → HasReport further root old new part c l ran
has_report further root s t old new part c l ran h =
    let r = report_at further root s t old new part c l ran.cursor ran.spent ran.files ran.found ran.end h in
    let report : Text = text (items_out (known_call further root s t old new) part (place_in c.state) h.last l ran.spent ran.files ran.found ran.end h.run) in (
      record { limits = l; report = report; opened = r.opened; ran = ran },
      (r.cut, (refl, (refl, (r.wrote, (r.uncut, ran_by further root s t old part c l ran report r.cut r.opened new (sym r.wrote) r.opened_is h refl))))),
    )
