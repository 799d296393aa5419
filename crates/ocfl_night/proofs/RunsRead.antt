-- What a run opens of content: each file once, in order, all of which it has then taken.
use Rattle.std.proofs.Common.{◌≡◌, ◌≢◌, ◌⊎◌, inl, inr, ℕ, List, [], ◌∷◌, ◌++◌, refl, sym, ◌∙◌, ap, subst, true, false, Bool, Some, None, Option, append_assoc, not, length, filter, ◌≤◌, arith, length-append}
use Rattle.std.proofs.lemmas.{List.{append-nil, append_cancel_left, length-map, length-take, map-append, take-append-drop}, List.Elements.{filter-append}}
use Rattle.std.specs.Prelude.{cond, drop, take}
use Rattle.std.specs.{List.{last_or}, Ordering.{is_lt}}
use Rattle.std.specs.declared.cmp.Ordering.TheVariants.{Less}
use Rattle.ocfl_tree.specs.{Place.{Place, place_cmp}, Ascending.{IsAscending, IsAmong}, StorageRoot.{StorageRoot}}
use Rattle.ocfl_tree.specs.{declared.store.Opening.{Opening}}
use Rattle.ocfl_tree.proofs.Orders.{among_from_filter, ascends_filter, before_each, not_both_below, not_less, not_less_itself, place_cmp_total, true_not_false}
use Rattle.ocfl_report.specs.Line.{Item}
use Rattle.ocfl_rules.specs.Between.{IsBeyond}
use Rattle.ocfl_rules.specs.Due.{due, hashed_among}
use Rattle.ocfl_rules.specs.Inventories.{is_hashed}
use Rattle.ocfl_rules.specs.Parts.{Part, lies_in}
use Rattle.ocfl_rules.specs.Runs.{Limits, left}
use Rattle.ocfl_rules.specs.Trail.{content_trail}
use Rattle.ocfl_rules.proofs.PartLaws.{places_within_is}
use Rattle.ocfl_cursor.specs.Cursor.{State, start, behind, ended, Cursor}
use Rattle.ocfl_scrub.specs.{Call.{Call, known_call}, Joining.{PartRun, Ran, is_taken}}
use Rattle.ocfl_scrub.specs.Running.{RunEndsWithin, RunsWithin, RunStopsWithin, begun, begun_in, place_in, state_after, taken_in}
use Rattle.ocfl_scrub.specs.{Starting.{due_within, items_in}, Together.{state_at}, Written.{places}}
use Rattle.ocfl_scrub.specs.declared.stop.ReportStop.{ReportStop}
use Rattle.ocfl_scrub.specs.declared.running.RunStatus.{RunStatus}
use Rattle.ocfl_scrub.specs.declared.running.RunStatus.TheVariants as status
use Rattle.ocfl_scrub.proofs.{AuditsJoined.{hashed_are_among}, CutLaws.{cut_and_left}, Lists.{ascends_left}}
use Rattle.ocfl_scrub.proofs.{PartStarts.{due_within_ascends}, PassLaws.{among_beyond, last_among}, RunPlaces.{due_parts}}
use Rattle.ocfl_item.specs.Looking.{IsFront}
use Rattle.ocfl_item.specs.declared.fault.Fault.{Fault}
use Rattle.ocfl_scrub.specs.declared.stop.ReportStop.TheVariants as report
use Rattle.ocfl_night.specs.{Again.{AreFew, TookOrBegan}, Ending.{slice_end}, Reading.{AreReadOnce, StaysTaken}}
use Rattle.ocfl_report.specs.declared.further.Further.{Further}
use Rattle.ocfl_terms.specs.declared.made.SliceEnd.TheVariants as slice

-- ---- lists

length_filter_le : {A : Type 0} (p : A → Bool) (xs : List A) → length (filter p xs) ≤ length xs
length_filter_le p [] = omega arith
length_filter_le {A} p (x ∷ xs) = by (p x) (length_filter_le p xs)
  where
    by : (b : Bool) → length (filter p xs) ≤ length xs → length (cond b (x ∷ filter p xs) (filter p xs)) ≤ length (x ∷ xs)
    by true few = omega (arith, few)
    by false few = omega (arith, few)

front_one : (begun : List Place) (others : List Item) → IsFront begun (places (take 1 others)) → length begun ≤ 1
front_one begun others front =
    let all = ap (λ (ps : List Place). length ps) front.1 ∙ length-append begun front.0 in
    let few = length-map (take 1 others) (λ (i : Item). i.place) in
    let one = length-take 1 others in
    omega (arith, all, few, one)

-- ---- what a cursor has taken

abbrev Stays : State → State → Type 0
Stays from to = (p : Place) → is_taken from p ≡ true → is_taken to p ≡ true

abbrev Taken : State → List Place → Type 0
Taken there ps = (p : Place) → IsAmong ps p → is_taken there p ≡ true

below_then : (q m p : Place) → place_cmp q m ≡ Less → place_cmp m p ≡ Less → is_taken (behind q) p ≡ true → ⊥
below_then q m p low then is = true_not_false (sym is ∙ ap (λ r. not (is_lt r)) (place_cmp_total.trans q m p low then))

-- what is due is after the cursor
due_beyond : (further : Further) (root : StorageRoot) (part : Part) (from : Option Place) (p : Place) → IsAmong (due_within further root part from) p → IsBeyond from p
due_beyond further root part from p i =
    among_beyond further root from p (among_from_filter (lies_in part) (due further root from) p (subst (λ zs. IsAmong zs p) (places_within_is part (due further root from)) i)).0

-- a cursor that went on to the last of some places after it
stays_by : (from : Option Place) (done : List Place) → ((p : Place) → IsAmong done p → IsBeyond from p) → Stays (state_at from) (state_at (last_or from done))
stays_by from [] all p is = is
stays_by None (x ∷ xs) all p is = absurd (true_not_false (sym is))
stays_by (Some q) (x ∷ xs) all p is =
    let last = last_among x xs in
    subst (λ o. is_taken (state_at o) p ≡ true) (sym last.1.0) (ap not (not_less (place_cmp last.0 p) (λ low. below_then q last.0 p (all last.0 last.1.1) low is)))

-- has taken each of them, if they ascend
taken_by : (from : Option Place) (ps : List Place) (p : Place) → IsAscending place_cmp ps → IsAmong ps p → is_taken (state_at (last_or from ps)) p ≡ true
taken_by from [] p up i = absurd i
taken_by from (x ∷ xs) p up (inr i) = taken_by (Some x) xs p up.1 i
taken_by from (x ∷ xs) p up (inl e) = subst (λ o. is_taken (state_at o) p ≡ true) (sym last.1.0) (ap not (by last.1.1))
  where
    last : (q : Place) × ((last_or (Some x) xs ≡ Some q) × IsAmong (x ∷ xs) q)
    last = last_among x xs

    by : IsAmong (x ∷ xs) last.0 → is_lt (place_cmp last.0 p) ≡ false
    by (inl f) = ap (λ q. is_lt (place_cmp q p)) (f ∙ sym e) ∙ not_less_itself place_cmp_total p
    by (inr j) = not_less (place_cmp last.0 p) (λ g. not_both_below place_cmp_total last.0 x (subst (λ z. place_cmp last.0 z ≡ Less) e g) (before_each place_cmp x xs up.0 last.0 j))

-- a cursor that has ended has taken nothing of the next cycle
begins_in : (c : Cursor) (s : State) → c.state ≡ s → Stays (begun_in c s).state (state_at (place_in s))
begins_in c start e p is = absurd (true_not_false (sym is ∙ ap (λ x. is_taken x p) e))
begins_in c (behind q) e p is = sym (ap (λ x. is_taken x p) e) ∙ is
begins_in c ended e p is = absurd (true_not_false (sym is))

-- ---- the places that a run took

record Took (further : Further) (root : StorageRoot) (part : Part) (from last : Option Place) (done : List Place) : Type 0 where
  rest : List Place
  due_are : due_within further root part from ≡ done ++ rest
  last_is : last ≡ last_or from done

module _ {further : Further} {root : StorageRoot} {part : Part} {from last : Option Place} {done : List Place} (h : Took further root part from last done) where
  took_up : IsAscending place_cmp done
  took_up = ascends_left place_cmp done h.rest (subst (IsAscending place_cmp) h.due_are (due_within_ascends further root part from))

  took_stays : Stays (state_at from) (state_at last)
  took_stays p is =
      subst (λ o. is_taken (state_at o) p ≡ true) (sym h.last_is) (stays_by from done (λ q i. due_beyond further root part from q (subst (λ qs. IsAmong qs q) (sym h.due_are) (among_front done h.rest q i))) p is)
    where
      among_front : (xs ys : List Place) (q : Place) → IsAmong xs q → IsAmong (xs ++ ys) q
      among_front [] ys q i = absurd i
      among_front (x ∷ xs) ys q (inl e) = inl e
      among_front (x ∷ xs) ys q (inr i) = inr (among_front xs ys q i)

  hashed_up : IsAscending place_cmp (hashed_among further root done)
  unfolding hashed_among
  hashed_up = ascends_filter place_cmp (is_hashed further root) done took_up

  hashed_taken : Taken (state_at last) (hashed_among further root done)
  hashed_taken p i = subst (λ o. is_taken (state_at o) p ≡ true) (sym h.last_is) (taken_by from done p took_up (hashed_are_among further root done p i))

-- it took the cut
took_cut : (further : Further) (root : StorageRoot) (part : Part) (from last : Option Place) (l : Limits) (trail : List Opening) → last ≡ last_or from (places (taken_in further root trail part from l)) → Took further root part from last (places (taken_in further root trail part from l))
took_cut further root part from last l trail is = record {
  rest = due_within further root part (last_or from (places (taken_in further root trail part from l)));
  due_are = due_parts further root part trail from (taken_in further root trail part from l) (left (items_in further root trail part from) l) (sym (cut_and_left (items_in further root trail part from) l));
  last_is = is;
}

module _ (call : Call) (part : Part) (from last : Option Place) (l : Limits) (spent files : ℕ) (finding : Bool) where
  -- or stopped in it
  took_whole : (why : ReportStop) (h : RunStopsWithin call part from last l spent files finding why) → Took call.further call.root part from last (places h.stops.whole)
  took_whole why h = record {
    rest = due_within call.further call.root part (last_or from (places h.stops.whole));
    due_are = due_parts call.further call.root part h.trail from h.stops.whole (h.stops.others ++ left (items_in call.further call.root h.trail part from) l)
        (sym (cut_and_left (items_in call.further call.root h.trail part from) l) ∙ ap (λ is. is ++ left (items_in call.further call.root h.trail part from) l) h.stops.items_are
        ∙ append_assoc h.stops.whole h.stops.others (left (items_in call.further call.root h.trail part from) l));
    last_is = h.stops.last_is;
  }

  stays_ends : (end : RunStatus) → RunEndsWithin call part from last l spent files finding end → Stays (state_at from) (state_after end last)
  stays_ends status.Ended h p is = refl
  stays_ends status.Spent h p is = took_stays (took_cut call.further call.root part from last l h.1.trail h.1.last_is) p is
  stays_ends (status.Stopped why) h p is = took_stays (took_whole why h) p is
  stays_ends status.Worn h p is = absurd h

-- ---- a run that was made from a cursor

module _ (further : Further) (root : StorageRoot) (part : Part) (c : Cursor) (r : PartRun) (w : Ran further root part c r) where
  abbrev from : Option Place
  from = place_in c.state

  abbrev last : Option Place
  last = w.runs.last

  abbrev call : Call
  call = known_call further root w.before w.behind w.old (w.old ++ (r.report ++ w.cut))

  state_is : (end : RunStatus) → r.ran.end ≡ end → r.ran.cursor.state ≡ state_after end last
  state_is end e = ap (λ x. x.state) w.runs.cursor_is ∙ ap (λ x. state_after x last) e

  -- what had been taken still is
  there_stays : Stays (begun c).state r.ran.cursor.state
  there_stays p is =
      subst (λ (s : State). is_taken s p ≡ true) (sym (state_is r.ran.end refl))
      (stays_ends call part from last r.limits r.ran.spent r.ran.files r.ran.found r.ran.end w.runs.run p (begins_in c c.state refl p is))

  pub run_stays : StaysTaken (begun c).state r.ran.cursor.state
  run_stays = record { each = there_stays }

  -- it took the cut
  cut_once : (next : Option Place) (end : RunStatus) → r.ran.end ≡ end → RunsWithin call part from last r.limits r.ran.spent r.ran.files r.ran.found next
      → (Taken (state_at last) (content_trail further root r.opened) → Taken (state_after end last) (content_trail further root r.opened)) → AreReadOnce r.ran.cursor.state (content_trail further root r.opened)
  cut_once next end e h more =
      let took = took_cut further root part from last r.limits h.trail h.last_is in
      let same : h.trail ≡ r.opened = sym (append_cancel_left w.before.openings r.opened h.trail (sym w.opened_is ∙ h.looks.audits.did.openings_are)) in
      let content : hashed_among further root (places (taken_in further root h.trail part from r.limits)) ≡ content_trail further root r.opened = sym h.looks.audits.opened ∙ ap (content_trail further root) same in
      record {
        once = subst (IsAscending place_cmp) content (hashed_up took);
        taken = record { each = subst (λ (s : State). Taken s (content_trail further root r.opened)) (sym (state_is end e)) (more (subst (Taken (state_at last)) content (hashed_taken took))) };
      }

  -- and if it did, it read each file once
  pub run_once : (r.ran.end ≡ status.Ended) ⊎ (r.ran.end ≡ status.Spent) → AreReadOnce r.ran.cursor.state (content_trail further root r.opened)
  run_once (inl e) =
      cut_once None status.Ended e (subst (RunEndsWithin call part from last r.limits r.ran.spent r.ran.files r.ran.found) e w.runs.run) (λ all p i. refl)
  run_once (inr e) =
      let run = subst (RunEndsWithin call part from last r.limits r.ran.spent r.ran.files r.ran.found) e w.runs.run in
      cut_once (Some run.0) status.Spent e run.1 (λ all. all)

  -- a run that stopped: what it took, and what it had begun with
  module _ (why : ReportStop) (e : r.ran.end ≡ status.Stopped why) (h : RunStopsWithin call part from last r.limits r.ran.spent r.ran.files r.ran.found why) where
    abbrev whole : List Place
    whole = places h.stops.whole

    stopped_content : hashed_among further root (whole ++ h.stops.begun) ≡ content_trail further root r.opened
    stopped_content = sym h.looks.fails.opened ∙ ap (content_trail further root) (sym (append_cancel_left w.before.openings r.opened h.trail (sym w.opened_is ∙ h.looks.fails.did.openings_are)))

    stopped_split : content_trail further root r.opened ≡ hashed_among further root whole ++ hashed_among further root h.stops.begun
    unfolding hashed_among
    stopped_split = sym stopped_content ∙ filter-append (is_hashed further root) whole h.stops.begun

    one_begun : length (hashed_among further root h.stops.begun) ≤ 1
    unfolding hashed_among
    one_begun = let few = length_filter_le (is_hashed further root) h.stops.begun in let one = front_one h.stops.begun h.stops.others h.stops.one in omega (arith, few, one)

    stopped_taken : Taken r.ran.cursor.state (hashed_among further root whole)
    stopped_taken = subst (λ (s : State). Taken s (hashed_among further root whole)) (sym (state_is (status.Stopped why) e)) (hashed_taken (took_whole call part from last r.limits r.ran.spent r.ran.files r.ran.found why h))

    stopped_up : IsAscending place_cmp (content_trail further root r.opened)
    unfolding hashed_among
    stopped_up = subst (IsAscending place_cmp) stopped_content (ascends_filter place_cmp (is_hashed further root) (whole ++ h.stops.begun) all_up)
      where
        rest : List Item
        rest = left (items_in further root h.trail part from) r.limits

        split : items_in further root h.trail part from ≡ (h.stops.whole ++ take 1 h.stops.others) ++ (drop 1 h.stops.others ++ rest)
        split =
            sym (cut_and_left (items_in further root h.trail part from) r.limits)
            ∙ ap (λ is. is ++ rest) (h.stops.items_are ∙ ap (λ is. h.stops.whole ++ is) (sym (take-append-drop 1 h.stops.others)) ∙ sym (append_assoc h.stops.whole (take 1 h.stops.others) (drop 1 h.stops.others)))
            ∙ append_assoc (h.stops.whole ++ take 1 h.stops.others) (drop 1 h.stops.others) rest

        due_are : due_within further root part from ≡ ((whole ++ h.stops.begun) ++ h.stops.one.0) ++ due_within further root part (last_or from (places (h.stops.whole ++ take 1 h.stops.others)))
        due_are =
            due_parts further root part h.trail from (h.stops.whole ++ take 1 h.stops.others) (drop 1 h.stops.others ++ rest) split
            ∙ ap (λ ps. ps ++ due_within further root part (last_or from (places (h.stops.whole ++ take 1 h.stops.others))))
            (map-append (λ (i : Item). i.place) h.stops.whole (take 1 h.stops.others) ∙ ap (λ ps. whole ++ ps) h.stops.one.1 ∙ sym (append_assoc whole h.stops.begun h.stops.one.0))

        all_up : IsAscending place_cmp (whole ++ h.stops.begun)
        all_up =
            ascends_left place_cmp (whole ++ h.stops.begun) h.stops.one.0 (ascends_left place_cmp ((whole ++ h.stops.begun) ++ h.stops.one.0) _ (subst (IsAscending place_cmp) due_are (due_within_ascends further root part from)))

  -- each file once, in order, also if it stopped
  pub run_up : IsAscending place_cmp (content_trail further root r.opened)
  run_up = by r.ran.end refl
    where
      by : (end : RunStatus) → r.ran.end ≡ end → IsAscending place_cmp (content_trail further root r.opened)
      by status.Ended e = (run_once (inl e)).once
      by status.Spent e = (run_once (inr e)).once
      by (status.Stopped why) e = stopped_up why e (subst (RunEndsWithin call part from last r.limits r.ran.spent r.ran.files r.ran.found) e w.runs.run)
      by status.Worn e = absurd (subst (RunEndsWithin call part from last r.limits r.ran.spent r.ran.files r.ran.found) e w.runs.run)

  pub run_opened : r.ran.end ≢ status.Stopped report.Output → TookOrBegan r.ran.cursor.state (slice_end r.ran.end) (content_trail further root r.opened)
  run_opened whole_lines = by r.ran.end refl
    where
      all : (end : RunStatus) → AreReadOnce r.ran.cursor.state (content_trail further root r.opened) → AreFew (slice_end end) [] → TookOrBegan r.ran.cursor.state (slice_end end) (content_trail further root r.opened)
      all end once few = record { took = content_trail further root r.opened; begun = []; are = sym (append-nil (content_trail further root r.opened)); taken = once.taken; few = few }

      stops : (why : Fault) → r.ran.end ≡ status.Stopped (report.Fault why) → RunStopsWithin call part from last r.limits r.ran.spent r.ran.files r.ran.found (report.Fault why) → TookOrBegan r.ran.cursor.state (slice.Stopped why) (content_trail further root r.opened)
      stops why e h = record {
        took = hashed_among further root (whole (report.Fault why) e h);
        begun = hashed_among further root h.stops.begun;
        are = stopped_split (report.Fault why) e h;
        taken = record { each = stopped_taken (report.Fault why) e h };
        few = one_begun (report.Fault why) e h;
      }

      by : (end : RunStatus) → r.ran.end ≡ end → TookOrBegan r.ran.cursor.state (slice_end end) (content_trail further root r.opened)
      by status.Ended e = all status.Ended (run_once (inl e)) refl
      by status.Spent e = all status.Spent (run_once (inr e)) refl
      by (status.Stopped report.Output) e = absurd (whole_lines e)
      by (status.Stopped (report.Fault why)) e = stops why e (subst (RunEndsWithin call part from last r.limits r.ran.spent r.ran.files r.ran.found) e w.runs.run)
      by status.Worn e = absurd (subst (RunEndsWithin call part from last r.limits r.ran.spent r.ran.files r.ran.found) e w.runs.run)
