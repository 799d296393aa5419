-- What is written around branches that are left out.
use Rattle.std.proofs.Common.{ℕ, ◌≡◌, ◌≢◌, ◌≤◌, List, [], ◌∷◌, ◌++◌, Bool, true, false, Option, Some, None, refl, sym, ◌∙◌, ap, subst, arith, append_assoc, length, length-append}
use Rattle.std.proofs.lemmas.List.{append-nil, append_cancel_left}
use Rattle.std.proofs.{lemmas.List.Concat.{flat_map-append}, lemmas.List.Elements.{filter-append}}
use Rattle.std.proofs.lemmas.List.Filters.{length-filter_both}
use Rattle.std.specs.{Prelude.{filter, not, cond, ◌&&◌, slice_get}, List.{AllByRecursion, last_or}, Ordering.{is_lt}}
use Rattle.ocfl_tree.specs.{Place.{Text, Place, place_cmp}, StorageRoot.{StorageRoot}}
use Rattle.ocfl_tree.specs.declared.store.Opening.{Opening}
use Rattle.ocfl_report.specs.{Line.{Item}, Text.{text}}
use Rattle.ocfl_rules.specs.{Audit.{Unread, audit, after}, Parts.{Part, within}}
use Rattle.ocfl_rules.specs.{Runs.{Limits, cut, left}, Trail.{unread_of}}
use Rattle.ocfl_rules.proofs.{PartLaws.{filter_twice}, Lists.{filter_same}}
use Rattle.ocfl_cursor.specs.Cursor.{Cursor}
use Rattle.ocfl_scrub.specs.{Call.{Call, known_call}, Written.{places}}
use Rattle.ocfl_scrub.specs.Running.{place_in, state_after, RunEndsWithin}
use Rattle.ocfl_scrub.specs.Joining.{PartRun, Ran, items_out}
use Rattle.ocfl_scrub.specs.declared.running.RunStatus.{RunStatus}
use Rattle.ocfl_scrub.specs.declared.running.RunStatus.TheVariants as status
use Rattle.ocfl_scrub.proofs.{Lists.{filter_none}, ChainLaws.{place_there}, CutLaws.{cut_and_left}}
use Rattle.ocfl_scrub.proofs.{PassLaws.{text_append}, RunLaws.{no_first}, RunPlaces.{after_front}}
use Rattle.ocfl_state.specs.declared.checkpoint_parts.Left.{Left}
use Rattle.ocfl_night.specs.Chain.{RootRun, joined, LeadTo, EndAt, past_branch, LedToEnd}
use Rattle.ocfl_night_laws.specs.Around.{up_to, around}
use Rattle.ocfl_report.specs.declared.further.Further.{Further}

-- ---- items up to a place, and those above it

and_turn : (a b : Bool) → (a && b) ≡ (b && a)
and_turn true true = refl
and_turn true false = refl
and_turn false true = refl
and_turn false false = refl

filters_turn : (f g : Item → Bool) (xs : List Item) → filter f (filter g xs) ≡ filter g (filter f xs)
filters_turn f g xs = filter_twice f g xs ∙ filter_same _ _ (λ i. and_turn (g i) (f i)) xs ∙ sym (filter_twice g f xs)

no_more : (f : Item → Bool) (xs : List Item) → length (filter f xs) ≤ length xs
no_more f xs = omega (arith, length-filter_both f (λ i. not (f i)) (λ i. refl) xs)

nothing_there : (xs : List Item) → length xs ≡ 0 → xs ≡ []
nothing_there [] is = refl
nothing_there (x ∷ xs) is = absurd (omega (arith, is))

-- what has no item above a place is all up to it
all_up_to : (f : Item → Bool) (xs : List Item) → filter f xs ≡ [] → filter (λ i. not (f i)) xs ≡ xs
all_up_to f [] none = refl
all_up_to f (x ∷ xs) none = by (f x) refl (all_up_to f xs)
  where
    by : (b : Bool) → f x ≡ b → (filter f xs ≡ [] → filter (λ i. not (f i)) xs ≡ xs) → filter (λ i. not (f i)) (x ∷ xs) ≡ x ∷ xs
    by true is rest_all =
        let some : x ∷ filter f xs ≡ [] = sym (ap (λ (b : Bool). cond b (x ∷ filter f xs) (filter f xs)) is) ∙ none in
        absurd (cc some)
    by false is rest_all =
        let rest : filter f xs ≡ [] = sym (ap (λ (b : Bool). cond b (x ∷ filter f xs) (filter f xs)) is) ∙ none in
        ap (λ (b : Bool). cond (not b) (x ∷ filter (λ i. not (f i)) xs) (filter (λ i. not (f i)) xs)) is ∙ ap (λ (ys : List Item). x ∷ ys) (rest_all rest)

same : (b : Bool) → (b && b) ≡ b
same true = refl
same false = refl

twice : (f : Item → Bool) (xs : List Item) → filter f (filter f xs) ≡ filter f xs
twice f xs = filter_twice f f xs ∙ filter_same _ _ (λ i. same (f i)) xs

-- the front of some items is those up to a place, if the rest are those above it
front_of : (f : Item → Bool) (items above front : List Item) → front ++ filter f items ≡ above → length (filter f above) ≤ length (filter f (filter f items)) → front ≡ filter (λ i. not (f i)) above
front_of f items above front is few =
    let kept : filter f front ++ filter f (filter f items) ≡ filter f above = sym (filter-append f front (filter f items)) ∙ ap (filter f) is in
    let none : filter f front ≡ [] = nothing_there (filter f front) (omega (arith, ap length kept, length-append (filter f front) (filter f (filter f items)), few)) in
    let lower : filter (λ i. not (f i)) front ++ filter (λ i. not (f i)) (filter f items) ≡ filter (λ i. not (f i)) above = sym (filter-append (λ i. not (f i)) front (filter f items)) ∙ ap (filter (λ i. not (f i))) is in
    sym (all_up_to f front none)
    ∙ sym (append-nil (filter (λ i. not (f i)) front))
    ∙ ap (λ (ys : List Item). filter (λ i. not (f i)) front ++ ys) (sym (filter_none f items))
    ∙ lower

no_front : (items above front : List Item) → front ++ items ≡ above → length above ≤ length items → front ≡ []
no_front items above front is few = nothing_there front (omega (arith, ap length is, length-append front items, few))

fewer : (items : List Item) (from : Option Place) → length (after items from) ≤ length items
fewer items None = omega arith
fewer items (Some p) = no_more (λ i. is_lt (place_cmp p i.place)) items

few_kept : (f g : Item → Bool) (items : List Item) → length (filter f (filter g items)) ≤ length (filter f (filter f items))
few_kept f g items = omega (arith, ap length (twice f items), ap length (filters_turn f g items), no_more g (filter f items))

few_whole : (f : Item → Bool) (items : List Item) → length (filter f items) ≤ length (filter f (filter f items))
few_whole f items = omega (arith, ap length (twice f items))

fewer_above : (f : Item → Bool) (items : List Item) (from : Option Place) → length (filter f (after items from)) ≤ length (filter f (filter f items))
fewer_above f items None = few_whole f items
fewer_above f items (Some p) = few_kept f (λ i. is_lt (place_cmp p i.place)) items

pub front_up_to : (items : List Item) (from to : Option Place) (front : List Item) → front ++ after items to ≡ after items from → front ≡ up_to to (after items from)
front_up_to items from None front is = no_front items (after items from) front is (fewer items from)
front_up_to items from (Some q) front is = front_of (λ i. is_lt (place_cmp q i.place)) items (after items from) front is (fewer_above (λ i. is_lt (place_cmp q i.place)) items from)

-- ---- one run

module _ (further : Further) (root : StorageRoot) (part : Part) where
  -- what was written from one place on, and what is left above another
  abbrev Goes : Option Place → Option Place → Text → Type 0
  Goes from to report = (front : List Item) × ((report ≡ text front) × (front ++ after (within part (audit further root [])) to ≡ after (within part (audit further root [])) from))

  module _ (c : Cursor) (r : PartRun) (w : Ran further root part c r) (all : unread_of further root r.opened ≡ []) where
    abbrev call : Call
    call = known_call further root w.before w.behind w.old (w.old ++ (r.report ++ w.cut))

    none : (trail : List Opening) → w.behind.openings ≡ w.before.openings ++ trail → unread_of further root trail ≡ []
    none trail are = ap (unread_of further root) (append_cancel_left w.before.openings trail r.opened (sym are ∙ w.opened_is)) ∙ all

    goes_by : (last : Option Place) (limits : Limits) (spent files : ℕ) (finding : Bool) (end : RunStatus) (run : RunEndsWithin call part (place_in c.state) last limits spent files finding end)
        → end ≢ status.Ended → r.report ≡ text (items_out call part (place_in c.state) last limits spent files finding end run) → Goes (place_in c.state) last r.report
    goes_by last limits spent files finding status.Ended run goes is = absurd (goes refl)
    goes_by last limits spent files finding status.Spent run goes is =
        let from : Option Place = place_in c.state in
        let h = run.1 in
        let empty : unread_of further root h.trail ≡ [] = none h.trail h.looks.audits.did.openings_are in
        let items : List Item = after (within part (audit further root [])) from in
        let last_is : last ≡ last_or from (places (cut items limits)) = h.last_is ∙ ap (λ (u : Unread). last_or from (places (cut (after (within part (audit further root u)) from) limits))) empty in
        let rest : after (within part (audit further root [])) last ≡ left items limits =
        ap (after (within part (audit further root []))) last_is ∙ after_front further root [] part from (cut items limits) (left items limits) (sym (cut_and_left items limits)) in
        (cut items limits, (is ∙ ap (λ (u : Unread). text (cut (after (within part (audit further root u)) from) limits)) empty, ap (λ (is : List Item). cut items limits ++ is) rest ∙ cut_and_left items limits))
    goes_by last limits spent files finding (status.Stopped why) run goes is =
        let from : Option Place = place_in c.state in
        let empty : unread_of further root run.trail ≡ [] = none run.trail run.looks.fails.did.openings_are in
        let items : List Item = after (within part (audit further root [])) from in
        let first : List Item = run.stops.whole in
        let more : List Item = run.stops.others ++ left items limits in
        let taken : cut items limits ≡ first ++ run.stops.others = sym (ap (λ (u : Unread). cut (after (within part (audit further root u)) from) limits) empty) ∙ run.stops.items_are in
        let both : items ≡ first ++ more = sym (cut_and_left items limits) ∙ ap (λ (is : List Item). is ++ left items limits) taken ∙ append_assoc first run.stops.others (left items limits) in
        let rest : after (within part (audit further root [])) last ≡ more = ap (after (within part (audit further root []))) run.stops.last_is ∙ after_front further root [] part from first more both in
        (first, (is, ap (λ (is : List Item). first ++ is) rest ∙ sym both))
    goes_by last limits spent files finding status.Worn run goes is = absurd run

    all_by : (last : Option Place) (limits : Limits) (spent files : ℕ) (finding : Bool) (end : RunStatus) (run : RunEndsWithin call part (place_in c.state) last limits spent files finding end)
        → end ≡ status.Ended → r.report ≡ text (items_out call part (place_in c.state) last limits spent files finding end run) → r.report ≡ text (after (within part (audit further root [])) (place_in c.state))
    all_by last limits spent files finding status.Ended run ends is =
        let from : Option Place = place_in c.state in
        let empty : unread_of further root run.trail ≡ [] = none run.trail run.looks.audits.did.openings_are in
        let items : List Item = after (within part (audit further root [])) from in
        let next : None ≡ slice_get (places (left items limits)) 0 = run.next_is ∙ ap (λ (u : Unread). slice_get (places (left (after (within part (audit further root u)) from) limits)) 0) empty in
        let whole : cut items limits ≡ items = sym (append-nil (cut items limits)) ∙ ap (λ (is : List Item). cut items limits ++ is) (sym (no_first (left items limits) next)) ∙ cut_and_left items limits in
        is ∙ ap (λ (u : Unread). text (cut (after (within part (audit further root u)) from) limits)) empty ∙ ap text whole
    all_by last limits spent files finding status.Spent run ends is = absurd (cc ends)
    all_by last limits spent files finding (status.Stopped why) run ends is = absurd (cc ends)
    all_by last limits spent files finding status.Worn run ends is = absurd (cc ends)

    stands : (end : RunStatus) (last : Option Place) → end ≢ status.Ended → place_in (state_after end last) ≡ last
    stands status.Ended last goes = absurd (goes refl)
    stands status.Spent last goes = place_there last
    stands (status.Stopped why) last goes = place_there last
    stands status.Worn last goes = place_there last

    -- a run that did not end the cycle
    run_goes : r.ran.end ≢ status.Ended → Goes (place_in c.state) (place_in r.ran.cursor.state) r.report
    run_goes goes =
        let there : place_in r.ran.cursor.state ≡ w.runs.last = ap (λ (x : Cursor). place_in x.state) w.runs.cursor_is ∙ stands r.ran.end w.runs.last goes in
        subst (λ (to : Option Place). Goes (place_in c.state) to r.report) (sym there) (goes_by w.runs.last r.limits r.ran.spent r.ran.files r.ran.found r.ran.end w.runs.run goes w.report_is)

    -- the run that ended it
    run_ends : r.ran.end ≡ status.Ended → r.report ≡ text (after (within part (audit further root [])) (place_in c.state))
    run_ends ends = all_by w.runs.last r.limits r.ran.spent r.ran.files r.ran.found r.ran.end w.runs.run ends w.report_is

-- ---- runs one after the other

abbrev OverOne : StorageRoot → List RootRun → Type 0
OverOne root runs = AllByRecursion (λ r. r.root ≡ root) runs

abbrev ReadAll : Further → StorageRoot → List RootRun → Type 0
ReadAll further root runs = AllByRecursion (λ r. unread_of further root r.run.opened ≡ []) runs

split_all : (P : RootRun → Type 0) (first rest : List RootRun) → AllByRecursion P (first ++ rest) → AllByRecursion P first × AllByRecursion P rest
split_all P [] rest all = (tt, all)
split_all P (r ∷ first) rest all = let more = split_all P first rest all.1 in ((all.0, more.0), more.1)

module _ (further : Further) (root : StorageRoot) where
  over : (part : Part) (c : Cursor) (r : RootRun) → r.root ≡ root → Ran further r.root part c r.run → Ran further root part c r.run
  over part c r is made = subst (λ (x : StorageRoot). Ran further x part c r.run) is made

  leg : (part : Part) (c e : Cursor) (runs : List RootRun) → LeadTo further part c runs e → OverOne root runs → ReadAll further root runs → Goes further root part (place_in c.state) (place_in e.state) (joined runs)
  leg part c e [] leads one read = ([], (refl, ap (λ (x : Cursor). after (within part (audit further root [])) (place_in x.state)) leads))
  leg part c e (r ∷ runs) leads one read =
      let now = run_goes further root part c r.run (over part c r one.0 leads.0) read.0 leads.1 in
      let later = leg part r.run.ran.cursor e runs leads.2 one.1 read.1 in (
        now.0 ++ later.0,
        (
          ap (λ (x : Text). x ++ joined runs) now.1.0 ∙ ap (λ (x : Text). text now.0 ++ x) later.1.0 ∙ sym (text_append now.0 later.0),
          append_assoc now.0 later.0 (after (within part (audit further root [])) (place_in e.state)) ∙ ap (λ (is : List Item). now.0 ++ is) later.1.1 ∙ now.1.1,
        ),
      )

  end_leg : (part : Part) (c d : Cursor) (runs : List RootRun) → EndAt further part c runs d → OverOne root runs → ReadAll further root runs → joined runs ≡ text (after (within part (audit further root [])) (place_in c.state))
  end_leg part c d [] ends one read = absurd ends
  end_leg part c d (r ∷ []) ends one read = append-nil r.run.report ∙ run_ends further root part c r.run (over part c r one.0 ends.0) read.0 ends.1
  end_leg part c d (r ∷ q ∷ runs) ends one read =
      let now = run_goes further root part c r.run (over part c r one.0 ends.0) read.0 ends.1 in
      let later = end_leg part r.run.ran.cursor d (q ∷ runs) ends.2 one.1 read.1 in
      ap (λ (x : Text). x ++ joined (q ∷ runs)) now.1.0 ∙ ap (λ (x : Text). text now.0 ++ x) later ∙ sym (text_append now.0 (after (within part (audit further root [])) (place_in r.run.ran.cursor.state))) ∙ ap text now.1.1

  -- what the runs of a cycle wrote
  pub wrote_around : (part : Part) (c d : Cursor) (runs : List RootRun) (left : List Left) → LedToEnd further part c runs left d → OverOne root runs → ReadAll further root runs
      → joined runs ≡ text (around part (place_in c.state) left (audit further root []))
  wrote_around part c d runs [] led one read = end_leg part c d runs led one read
  wrote_around part c d runs (l ∷ left) (first, (rest, (e, (are, (leads, (stood, led)))))) one read =
      let ones = split_all (λ r. r.root ≡ root) first rest (subst (λ (rs : List RootRun). OverOne root rs) are one) in
      let reads = split_all (λ r. unread_of further root r.run.opened ≡ []) first rest (subst (λ (rs : List RootRun). ReadAll further root rs) are read) in
      let items : List Item = after (within part (audit further root [])) (place_in c.state) in
      let now = leg part c e first leads ones.0 reads.0 in
      let front : now.0 ≡ up_to l.after items = front_up_to (within part (audit further root [])) (place_in c.state) (place_in e.state) now.0 now.1.1 ∙ ap (λ (to : Option Place). up_to to items) stood in
      let later = wrote_around (past_branch part l) e d rest left led ones.1 reads.1 ∙ ap (λ (to : Option Place). text (around (past_branch part l) to left (audit further root []))) stood in
      ap joined are ∙ flat_map-append (λ (r : RootRun). r.run.report) first rest
      ∙ ap (λ (x : Text). x ++ joined rest) (now.1.0 ∙ ap text front)
      ∙ ap (λ (x : Text). text (up_to l.after items) ++ x) later
      ∙ sym (text_append (up_to l.after items) (around (past_branch part l) l.after left (audit further root [])))
