-- A pass over a part that is paid for is a run.
use Rattle.std.proofs.Common.{◌≡◌, ◌≢◌, ◌⊎◌, inl, inr, ℕ, suc, ◌+◌, ◌<◌, ◌≤◌, ◌^◌, List, [], ◌∷◌, ◌++◌, refl, sym, ◌∙◌, ap, subst, true, false, Bool, Some, None, Option, append-nil, take, Bor, arith}
use Rattle.std.specs.{Prelude.{cond, slice_get}, Option.{option_map, option_copied}, Io.KnownBytes.{Appends}}
use Rattle.std.specs.{Ordering.{is_lt}, List.{last_or}}
use Rattle.ocfl_tree.specs.{Place.{Text, Place, place_cmp}, Ascending.{IsAmong, IsBeforeAll}}
use Rattle.ocfl_tree.specs.{StorageRoot.{StorageRoot}, Store.{Store}}
use Rattle.ocfl_tree.specs.declared.store.Opening.{Opening}
use Rattle.ocfl_tree.proofs.Orders.{among_right}
use Rattle.ocfl_report.specs.{Line.{Item, found}, Text.{text}}
use Rattle.ocfl_rules.specs.Audit.{audit, after, total_cost, given_by}
use Rattle.ocfl_rules.specs.Lines.{is_empty}
use Rattle.ocfl_rules.specs.Inventories.{is_hashed}
use Rattle.ocfl_rules.specs.Due.{items_at}
use Rattle.ocfl_rules.specs.Between.{IsWithin}
use Rattle.ocfl_rules.specs.Parts.{Part, within}
use Rattle.ocfl_rules.specs.Trail.{unread_of}
use Rattle.ocfl_rules.specs.Runs.{Limits, files_of, total_files, cut_len, cut, left}
use Rattle.ocfl_cursor.specs.{Cursor.{State, Cursor, IsShortPlace, IsCursor}, Moves.{after_run}}
use Rattle.ocfl_item.specs.{Looking.{IsFront}, Auditing.{Audits}}
use Rattle.ocfl_item.specs.declared.fault.Fault.{Fault}
use Rattle.ocfl_report.specs.declared.further.Further.{Further}
use Rattle.ocfl_scrub.specs.declared.stop.ReportStop.TheVariants.{Output}
use Rattle.ocfl_scrub.specs.Types.{ReportStop}
use Rattle.ocfl_walk.specs.{WalkCalls.{GoesDown, GoDownFails}}
use Rattle.ocfl_walk.proofs.WalkCallLaws.{audits_as}
use Rattle.ocfl_scrub.specs.{Call.{call_of}, Taking.{PartOf, stop_place}, Written.{places, Figures}}
use Rattle.ocfl_scrub.specs.Running.{taken_in, place_in, RunsWithin, RunStopsWithin, RunEndsWithin, RunsFromWithin, RunsCleanWithin, RunsCleanlyWithin, IsPaid, begun, state_after}
use Rattle.ocfl_scrub.specs.Starting.{AreAhead, FailsUpTo, due_within, end_of, entry, stand, looked_in, read_in, LooksOver, StopsLooking, items_in}
use Rattle.ocfl_scrub.specs.{Beginning.{Begins}, declared.running.RunStatus.{RunStatus}}
use Rattle.ocfl_scrub.specs.declared.running.RunStatus.TheVariants.{Ended, Spent, Stopped, Worn}
use Rattle.ocfl_scrub.specs.declared.stop.ReportStop.TheVariants as halt
use Rattle.ocfl_scrub.proofs.Paying.{Paid, Counts, IsWithinBoth, PaysAll, PaysUpTo, PaysHalting}
use Rattle.ocfl_scrub.proofs.AuditLaws.{places_of_items, take_items, nothing_out, none_left, above_are}
use Rattle.ocfl_scrub.proofs.{PassLaws.{take_nothing}, TakeLaws.{failed_is, fault_other, nothing_of}}
use Rattle.ocfl_scrub.proofs.{MeterLaws.{paid_files}, Passing.{due_in}}
use Rattle.ocfl_scrub.proofs.{AheadLaws.{ahead_both, down_up_to, way_ahead}, RunPlaces.{rest_is}}
use Rattle.ocfl_scrub.proofs.PartStarts.{due_starts, looked_all, read_all, looked_to, read_to}
use Rattle.ocfl_scrub.proofs.LookLaws.{looks_over, stops_looking, stops_above}
use Rattle.ocfl_scrub.proofs.WayListed.{before_next, halted_lie, taken_lie}
use Rattle.ocfl_scrub.proofs.CutLaws.{IsStop, paid_begins, cut_of_paid, left_of_paid, test_unpaid, hashed_costs}

-- ---- where a cut ends

nothing_stops : (further : Further) (root : StorageRoot) (os : List Opening) (l : Limits) (spent files : ℕ) → IsStop l spent files (items_at further root os [])
unfolding items_at
nothing_stops further root os l spent files = tt

-- the limits do not pay what is next, whatever could be read
unpaid_stops : (further : Further) (root : StorageRoot) (os : List Opening) (l : Limits) (spent files : ℕ) (p : Place) (ps : List Place) → is_hashed further root p ≡ true
    → (IsWithinBoth l spent files → ⊥) → IsStop l spent files (items_at further root os (p ∷ ps))
unfolding items_at
unpaid_stops further root os l spent files p ps h k = test_unpaid l spent files _ (hashed_costs further root (given_by (unread_of further root os) p) p h) k

none_first : (further : Further) (root : StorageRoot) (os : List Opening) → None ≡ slice_get (places (items_at further root os [])) 0
unfolding items_at
none_first further root os = refl

some_first : (further : Further) (root : StorageRoot) (os : List Opening) (p : Place) (ps : List Place) → Some p ≡ slice_get (places (items_at further root os (p ∷ ps))) 0
unfolding items_at
some_first further root os p ps = refl

-- the next item is in the cut if it is paid for
first_taken : (l : Limits) (s f : ℕ) (ys : List Item) → Paid l s f (take 1 ys) → take 1 (take (cut_len l s f ys) ys) ≡ take 1 ys
first_taken l s f [] h = refl
first_taken l s f (y ∷ ys) h =
    let n : ℕ = cut_len l (s + y.cost) (f + files_of y.cost) ys in
    ap (λ v. take 1 (take (cond v (suc n) 0) (y ∷ ys))) h.0 ∙ ap (λ zs. y ∷ zs) (take_nothing (take n ys) ∙ sym (take_nothing ys))

pub no_part : (why : ReportStop) → why ≢ Output → (whole part : Text) → PartOf why whole part → part ≡ []
no_part why other whole part h = h.is ∙ ap (λ n. take n whole) (h.none other) ∙ take_nothing whole

-- what was begun and written of the next item is a beginning of the first that the cut has left
ends_at : (further : Further) (root : StorageRoot) (os : List Opening) (why : ReportStop) (begun : List Place) (part : Text) (nexts : List Place) (first : List Item)
    → (first ≡ items_at further root os nexts) ⊎ ((why ≢ Output) × (begun ≡ []))
    → IsFront begun nexts → PartOf why (text (items_at further root os nexts)) part → IsFront begun (places first) × PartOf why (text first) part
ends_at further root os why begun part nexts first (inl e) one h =
    (subst (IsFront begun) (sym (places_of_items further root os nexts) ∙ ap places (sym e)) one, subst (λ is. PartOf why (text is) part) (sym e) h)
ends_at further root os why begun part nexts first (inr (other, none)) one h =
    (subst (λ xs. IsFront xs (places first)) (sym none) (places first, refl), subst (PartOf why (text first)) (sym (no_part why other _ part h)) (nothing_of why other (text first)))

next_of : {A B C : Type 0} → A ⊎ C → (A → B) → B ⊎ C
next_of (inl a) f = inl (f a)
next_of (inr c) f = inr c

-- ---- after a walk that went down to where the pass over a part begins

module _ (further : Further) (root : StorageRoot) (part : Part) (s t u : Store) (old new : Option (List ℕ)) (from stood last : Option Place) (l : Limits)
    (spent files : ℕ) (finding : Bool) (g : GoesDown further root s t (entry part from)) where
  module _ (os : List Opening) (done later : List Place) (due_are : due_in further root (end_of part) (stand root part from) ≡ done ++ later) where
    are : items_in further root (g.trail ++ os) part from ≡ items_at further root os done ++ items_at further root os later
    are = above_are further root part s t from g os done later due_are

    module _ (counts : Counts l spent files (items_at further root os done)) where
      module _ (next : Option Place) (stop : IsStop l spent files (items_at further root os later)) where
        stop_there : IsStop l (total_cost (items_at further root os done)) (total_files (items_at further root os done)) (items_at further root os later)
        stop_there =
            subst (λ n. IsStop l n (total_files (items_at further root os done)) (items_at further root os later)) counts.spent_is
            (subst (λ n. IsStop l spent n (items_at further root os later)) counts.files_is stop)

        taken_are : taken_in further root (g.trail ++ os) part from l ≡ items_at further root os done
        taken_are = ap (λ is. cut is l) are ∙ cut_of_paid l _ _ counts.paid stop_there

        rest_are : left (items_in further root (g.trail ++ os) part from) l ≡ items_at further root os later
        rest_are = ap (λ is. left is l) are ∙ left_of_paid l _ _ counts.paid stop_there

        runs_of : next ≡ slice_get (places (items_at further root os later)) 0 → ((p d : Place) → IsBeforeAll place_cmp p later → is_lt (place_cmp p d) ≡ false → IsWithin next d)
            → Audits further root t u done (looked_in root part from next) (read_in root part from next) os
            → Appends old new (text (items_at further root os done)) → finding ≡ found (items_at further root os done) → last ≡ last_or from done
            → RunsWithin (call_of further root s u old new) part from last l spent files finding next
        runs_of next_is far k wrote found_is last_is =
            let at_places : places (taken_in further root (g.trail ++ os) part from l) ≡ done = ap places taken_are ∙ places_of_items further root os done in
            record {
              trail = g.trail ++ os;
              looks = subst (λ ps. LooksOver (call_of further root s u old new) part from next ps (g.trail ++ os)) (sym at_places) (looks_over further root part s t u old new from g next done os
                  (taken_lie further root part from g.listed g.all_listed next done later due_are far) k);
              wrote = subst (λ is. Appends old new (text is)) (sym taken_are) wrote;
              figures = subst (λ is. Figures is spent files finding) (sym taken_are) (record { spent_is = counts.spent_is; files_is = counts.files_is; found_is = found_is });
              last_is = last_is ∙ ap (last_or from) (sym at_places);
              next_is = next_is ∙ ap (λ xs. slice_get (places xs) 0) (sym rest_are);
            }

  -- all were taken
  pub ended : (h : PaysAll further root (end_of part) t u old new (stand root part from) stood l spent files finding) → last ≡ last_or from (due_in further root (end_of part) (stand root part from))
      → RunsWithin (call_of further root s u old new) part from last l spent files finding None
  ended h last_is =
      let k = h.finishes in
      let all : List Place = due_in further root (end_of part) (stand root part from) in
      runs_of k.trail all [] (sym (append-nil all)) h.counts None (nothing_stops further root k.trail l spent files) (none_first further root k.trail) (λ p d b n. tt)
      (audits_as further (looked_all further root part from) (read_all further root part from) k.audits) k.wrote k.found_is last_is

  -- the limits were reached
  pub spent_all : (h : PaysUpTo further root (end_of part) t u old new (stand root part from) stood l spent files finding) → last ≡ last_or from h.done
      → RunsWithin (call_of further root s u old new) part from last l spent files finding (Some h.next)
  spent_all h last_is =
      runs_of h.trail h.done (h.next ∷ due_in further root (end_of part) (Some h.next)) h.due_are h.counts (Some h.next)
      (unpaid_stops further root h.trail l spent files h.next _ h.hashed h.reached) (some_first further root h.trail h.next _) (λ p d b n. before_next p h.next d b.0 n)
      (audits_as further (looked_to further root part from h.next h.in_front) (read_to further root part from h.next h.in_front) h.audits) h.wrote h.found_is last_is

  -- there was a fault
  pub stopped : (why : ReportStop) (h : PaysHalting further root (end_of part) t u old new (stand root part from) stood l spent files finding why) → last ≡ last_or from h.halts.done
      → RunStopsWithin (call_of further root s u old new) part from last l spent files finding why
  unfolding stops_looking
  stopped why h last_is =
      let k = h.halts in
      let trail : List Opening = g.trail ++ k.trail in
      let due_left : List Place = due_in further root (end_of part) stood in
      let whole : List Item = items_at further root k.trail k.done in
      let later : List Item = items_at further root k.trail due_left in
      let others : List Item = take (cut_len l (0 + total_cost whole) (0 + total_files whole) later) later in
      let whole_places : k.done ≡ places whole = sym (places_of_items further root k.trail k.done) in
      let next_item : take 1 later ≡ items_at further root k.trail (take 1 due_left) = take_items further root k.trail 1 due_left in
      let c = h.counts.spent_is in
      let f = h.counts.files_is in
      let first : Paid l spent files (items_at further root k.trail (take 1 due_left)) → take 1 others ≡ items_at further root k.trail (take 1 due_left) = λ p.
      first_taken l (0 + total_cost whole) (0 + total_files whole) later
      (subst (λ n. Paid l n (0 + total_files whole) (take 1 later)) (let z : spent ≡ 0 + total_cost whole = omega (arith, c) in z)
      (subst (λ n. Paid l spent n (take 1 later)) (let z : files ≡ 0 + total_files whole = omega (arith, f) in z) (subst (Paid l spent files) (sym next_item) p)))
      ∙ next_item in
      let ends = ends_at further root k.trail why k.begun k.part (take 1 due_left) (take 1 others) (next_of h.next first) k.one k.part_of in
      let listed_front = subst (IsFront k.listed) (looked_all further root part from) k.listed_front in
      let heads_front = subst (IsFront k.heads) (read_all further root part from) k.heads_front in
      let split : items_in further root trail part from ≡ whole ++ later = are k.trail k.done due_left k.due_are in
      let left_is : due_within further root part last ≡ due_left =
      ap (due_within further root part) (last_is ∙ ap (last_or from) whole_places) ∙ sym (places_of_items further root trail (due_within further root part (last_or from (places whole))))
      ∙ ap places (rest_is further root part trail from whole later split) ∙ places_of_items further root k.trail due_left in
      let far : AreAhead g.listed (due_within further root part last) = λ d y i j.
      way_ahead further root part from g.listed g.listed_front d y i
      (subst (λ ps. IsAmong ps y) (sym (sym (due_starts further root part from) ∙ k.due_are)) (among_right k.done due_left y (subst (λ ps. IsAmong ps y) left_is j))) in
      let ahead : AreAhead (g.listed ++ k.listed) (due_within further root part last) =
      ahead_both g.listed k.listed (due_within further root part last) far (subst (AreAhead k.listed) (sym left_is) k.ahead) in
      let looked = subst (λ ps. (l : StopsLooking (call_of further root s u old new) part from (ps ++ k.begun) trail why) × AreAhead (l.down ++ l.listed) (due_within further root part last)) whole_places
      (stops_looking further root part s t u old new from g why (k.done ++ k.begun) k.listed k.heads k.trail k.fails listed_front heads_front (halted_lie further root part from g.listed g.all_listed k), ahead) in
      record {
        trail = trail;
        stops = record {
          whole = whole;
          others = others;
          items_are = ap (λ is. cut is l) split ∙ paid_begins l whole later h.counts.paid;
          begun = k.begun;
          one = ends.0;
          part = k.part;
          wrote = k.wrote;
          part_of = ends.1;
          last_is = last_is ∙ ap (last_or from) whole_places;
        };
        figures = record { spent_is = h.counts.spent_is; files_is = h.counts.files_is; found_is = k.found_is };
        looks = looked.0;
        ahead = looked.1;
        up_to = subst (FailsUpTo (stop_place why)) (sym left_is) k.up_to;
      }

-- the place that a walk is given by reference
pub lent_place : {A : Type 0} (o : Option (Bor A)) (from : Option A) → option_copied o ≡ from → option_map (λ p. p.now) o ≡ from
lent_place None from e = e
lent_place (Some p) from e = e

-- no walk was started
pub not_run : (further : Further) (root : StorageRoot) (part : Part) (s t : Store) (old : Option (List ℕ)) (from : Option Place) (l : Limits) (why : Fault) → GoDownFails further root s t (entry part from) why
    → RunStopsWithin (call_of further root s t old old) part from from l 0 0 false (halt.Fault why)
unfolding nothing_out stops_above
not_run further root part s t old from l why g = record {
  trail = g.trail;
  stops = nothing_out (taken_in further root g.trail part from l) old from (halt.Fault why) (fault_other why);
  figures = record { spent_is = refl; files_is = refl; found_is = refl };
  looks = stops_above further root part s t old old from why g;
  ahead = ahead_both g.listed [] (due_within further root part from) (way_ahead further root part from g.listed g.listed_front) (λ d p i j. absurd i);
  up_to = λ q y stop i. down_up_to further root part s t from why g q y (failed_is why q stop) i;
}

-- ---- if no failure was counted

pub no_first : (items : List Item) → None ≡ slice_get (places items) 0 → items ≡ []
no_first [] e = refl
no_first (i ∷ items) e = absurd cc

pub some_item : (items : List Item) (p : Place) → Some p ≡ slice_get (places items) 0 → is_empty items ≡ false
some_item [] p e = absurd cc
some_item (i ∷ items) p e = refl

a_first : (items : List Item) (p : Place) → Some p ≡ slice_get (places items) 0 → items ≢ []
a_first [] p e f = absurd cc
a_first (i ∷ items) p e f = cc

module _ (further : Further) (root : StorageRoot) (part : Part) (s t : Store) (old new : Option (List ℕ)) (c : Cursor) (last : Option Place) (l : Limits)
    (spent files : ℕ) (finding : Bool) (same : t.failures ≡ s.failures) where
  all_read : (next : Option Place) (h : RunsWithin (call_of further root s t old new) part (place_in c.state) last l spent files finding next) → unread_of further root h.trail ≡ []
  all_read next h = none_left (unread_of further root h.trail) s.failures (sym same ∙ h.looks.audits.did.failures_are)

  cleanly : (next : Option Place) → RunsWithin (call_of further root s t old new) part (place_in c.state) last l spent files finding next
      → RunsCleanWithin (call_of further root s t old new) part (place_in c.state) l spent files finding
  cleanly next h =
      let e = all_read next h in
      record {
        wrote = subst (λ u. Appends old new (text (cut (after (within part (audit further root u)) (place_in c.state)) l))) e h.wrote;
        figures = subst (λ u. Figures (cut (after (within part (audit further root u)) (place_in c.state)) l) spent files finding) e h.figures;
      }

  pub runs_cleanly : (end : RunStatus) → RunEndsWithin (call_of further root s t old new) part (place_in c.state) last l spent files finding end
      → RunsCleanlyWithin (call_of further root s t old new) part c l spent files finding end
  runs_cleanly Ended h = (cleanly None h, subst (λ u. left (after (within part (audit further root u)) (place_in c.state)) l ≡ []) (all_read None h) (no_first _ h.next_is))
  runs_cleanly Spent h = (cleanly (Some h.0) h.1, subst (λ u. left (after (within part (audit further root u)) (place_in c.state)) l ≢ []) (all_read (Some h.0) h.1) (a_first _ h.0 h.1.next_is))
  runs_cleanly (Stopped why) h = tt
  runs_cleanly Worn h = tt

-- ---- from the cursor that a run is given

-- the run can be counted
pub run_counted : (b : Cursor) (l : Limits) (spent files : ℕ) (state : State) → IsCursor b → b.runs + 1 < 2 ^ 64 → spent ≤ 2 ^ 63 → IsPaid l spent files
    → IsShortPlace state → IsCursor (after_run b spent files state)
run_counted b l spent files state h room fits p short =
    let s = h.spent in
    let f = h.files in
    let m = paid_files l spent files p in
    record {
      first = h.first;
      cycle = h.cycle;
      runs = room;
      spent = omega (arith, s, fits);
      files = omega (arith, f, m);
      place = short;
    }

module _ (further : Further) (root : StorageRoot) (part : Part) (s t : Store) (old new : Option (List ℕ)) (c b : Cursor) (from last : Option Place) (l : Limits) (spent files : ℕ)
    (finding : Bool) (end : RunStatus) (h : Begins c b from)
    (run : RunEndsWithin (call_of further root s t old new) part from last l spent files finding end) where
  begun_there : RunEndsWithin (call_of further root s t old new) part (place_in c.state) last l spent files finding end
  begun_there = subst (λ x. RunEndsWithin (call_of further root s t old new) part x last l spent files finding end) h.from_is run

  pub runs_from : (reached : Cursor) (state : State) → reached ≡ after_run b spent files state → state ≡ state_after end last
      → RunsFromWithin (call_of further root s t old new) part c l (record { cursor = reached; spent = spent; files = files; found = finding; end = end })
  runs_from reached state e f = record {
    last = last;
    run = begun_there;
    cursor_is = e ∙ ap (λ x. after_run x spent files state) h.begun_is ∙ ap (λ x. after_run (begun c) spent files x) f;
  }
