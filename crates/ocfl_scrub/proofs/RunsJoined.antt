-- Some runs of a part one after the other, by their places: a run, and then those that follow.
use Rattle.std.proofs.Common.{◌≡◌, inl, inr, ℕ, zero, suc, ◌+◌, ◌-◌, ◌<◌, ◌≤◌, List, [], ◌∷◌, ◌++◌, refl, sym, ◌∙◌, ap, subst, true, false, Bool, Some, None, Option, append-nil, append_assoc, length, length-append, take, drop, arith}
use Rattle.std.proofs.lemmas.List.{map-append, take-append-drop}
use Rattle.std.proofs.KnownBytes.{Appends-nil, Appends-trans}
use Rattle.std.specs.{Prelude.{◌||◌, cond, filter, slice_get}, Io.KnownBytes.{Appends}, List.{last_or}}
use Rattle.ocfl_tree.specs.{Place.{Text, Place, place_cmp}, Ascending.{IsAscending, IsAmong}}
use Rattle.ocfl_tree.specs.{StorageRoot.{StorageRoot}, Store.{Store}}
use Rattle.ocfl_tree.specs.declared.store.Opening.{Opening}
use Rattle.ocfl_report.specs.{Line.{Item, found}, Text.{text}}
use Rattle.ocfl_rules.specs.Audit.{total_cost}
use Rattle.ocfl_rules.specs.Lines.{is_empty}
use Rattle.ocfl_rules.specs.Inventories.{is_hashed}
use Rattle.ocfl_rules.specs.Trail.{content_trail, reads_inventory}
use Rattle.ocfl_rules.specs.Zone.{Zone, skipped, hierarchy, inside, zone}
use Rattle.ocfl_rules.specs.Due.{items_at, hashed_among}
use Rattle.ocfl_rules.specs.Parts.{Part}
use Rattle.ocfl_rules.specs.Runs.{Limits, total_files, cut, left, runs, runs_after, joined}
use Rattle.ocfl_rules.proofs.RunLaws.{cost_append, files_append}
use Rattle.ocfl_item.specs.{Looking.{IsFront}, Auditing.{Fails}}
use Rattle.ocfl_scrub.specs.Types.{ReportStop}
use Rattle.ocfl_item.specs.declared.fault.Fault.TheVariants.{Memory}
use Rattle.ocfl_scrub.specs.declared.stop.ReportStop.TheVariants as halt
use Rattle.ocfl_walk.specs.WalkCalls.{holder, holder_of}
use Rattle.ocfl_scrub.specs.{Call.{call_of}, Taking.{PartOf, stop_place}, Written.{places, Figures}}
use Rattle.ocfl_scrub.specs.Running.{RunStopsWithin}
use Rattle.ocfl_scrub.specs.Starting.{entry, due_within, read_in, items_in}
use Rattle.ocfl_scrub.specs.declared.cycling.CycleStatus.{CycleStatus}
use Rattle.ocfl_scrub.specs.declared.cycling.CycleStatus.TheVariants.{Ended, Spent, Stopped}
use Rattle.ocfl_scrub.proofs.{PartStarts.{above_in, due_within_ascends}, Lists.{ascends_left}}
use Rattle.ocfl_scrub.proofs.AuditsJoined.{items_before, items_behind, items_append, items_then}
use Rattle.ocfl_scrub.proofs.PassLaws.{text_append, found_append, no_items, take_nothing}
use Rattle.ocfl_scrub.proofs.{TakeLaws.{fault_of_nothing}, AuditLaws.{places_of_items}}
use Rattle.ocfl_scrub.proofs.CutLaws.{IsStop, cut_of_paid, left_of_paid, cut_and_left}
use Rattle.ocfl_scrub.proofs.{PartLaws.{stop_alike, stop_hashed}, NextLaws.{read_parts}}
use Rattle.ocfl_scrub.proofs.WayOrder.{held_in}
use Rattle.ocfl_scrub.proofs.RunPlaces.{Took, Turn, front_is, rest_is, due_parts, front_length}
use Rattle.ocfl_item.proofs.AuditingLaws.{audits_fail, audits_nothing, audits_on}
use Rattle.ocfl_item.proofs.AuditingLaws.{fails_nothing}
use Rattle.ocfl_report.specs.declared.further.Further.{Further}

-- ---- some runs

-- how many inventories runs read that begin above a place: none if there is no run, and else
-- those from there on and one more for each run, but for the first if nothing holds that place
pub record ReadFew (root : StorageRoot) (part : Part) (from : Option Place) (heads : List Place) (count : ℕ) : Type 0 where
  pub none : count ≡ 0 → length heads ≡ 0
  pub some : 1 ≤ count → length heads < length (holder root (entry part from)) + length (read_in root part from None) + count

-- from s to t the runs of the limits took the items above from up to last
pub record Parts (further : Further) (root : StorageRoot) (part : Part) (s t : Store) (old new : Option (List ℕ)) (from last : Option Place) (limits : List Limits)
    (spent files : ℕ) (finding : Bool) (count : ℕ) (ended : Bool) : Type 0 where
  pub took : Took further root part s t old new from last spent files finding
  pub runs_are : joined (runs (items_at further root took.trail (due_within further root part from)) limits) ≡ items_at further root took.trail took.done
  pub count_is : count ≡ length (runs (items_at further root took.trail (due_within further root part from)) limits)
  pub read : ReadFew root part from took.heads count
  pub ended_is : ended ≡ is_empty (due_within further root part last)
  pub made : ended ≡ true → 1 ≤ count

-- from s to t they took the items above from up to last, and then there was a fault
pub record PartsStop (further : Further) (root : StorageRoot) (part : Part) (s t : Store) (old new : Option (List ℕ)) (from last : Option Place) (limits : List Limits)
    (spent files : ℕ) (finding : Bool) (count : ℕ) (why : ReportStop) : Type 0 where
  pub done : List Place
  pub begun : List Place
  pub trail : List Opening
  pub others : List Item
  pub listed : List Place
  pub heads : List Place
  pub fails : Fails further root s t (done ++ begun) listed heads trail (stop_place why)
  pub first_due : IsFront (done ++ begun) (due_within further root part from)
  pub last_is : last ≡ last_or from done
  pub runs_begin : joined (take count (runs (items_at further root trail (due_within further root part from)) limits)) ≡ items_at further root trail done ++ others
  pub runs_before : IsFront (joined (take (count - 1) (runs (items_at further root trail (due_within further root part from)) limits))) (items_at further root trail done)
  pub one : IsFront begun (places (take 1 others))
  pub gone : Text
  pub wrote : Appends old new (text (items_at further root trail done) ++ gone)
  pub part_of : PartOf why (text (take 1 others)) gone
  pub count_fits : count ≤ length (runs (items_at further root trail (due_within further root part from)) limits)
  pub figures : Figures (items_at further root trail done) spent files finding
  pub read : ReadFew root part from heads count

abbrev pub PartsEnd : Further → StorageRoot → Part → Store → Store → Option (List ℕ) → Option (List ℕ) → Option Place → Option Place → List Limits → ℕ → ℕ → Bool → ℕ → CycleStatus → Type 0
PartsEnd further root part s t old new from last limits spent files finding count Ended = Parts further root part s t old new from last limits spent files finding count true
PartsEnd further root part s t old new from last limits spent files finding count Spent = Parts further root part s t old new from last limits spent files finding count false
PartsEnd further root part s t old new from last limits spent files finding count (Stopped why) = PartsStop further root part s t old new from last limits spent files finding count why

-- ---- lists

last_then : (from : Option Place) (ps qs : List Place) → last_or (last_or from ps) qs ≡ last_or from (ps ++ qs)
last_then from [] qs = refl
last_then from (p ∷ ps) qs = last_then (Some p) ps qs

none_empty : (ps : List Place) → ps ≡ [] → is_empty ps ≡ true
none_empty [] h = refl
none_empty (p ∷ ps) h = absurd cc

some_items : (further : Further) (root : StorageRoot) (os : List Opening) (p : Place) (ps : List Place) → is_empty (items_at further root os (p ∷ ps)) ≡ false
unfolding items_at
some_items further root os p ps = refl

-- none of some lists
joined_none : (xs : List (List Item)) → joined (take 0 xs) ≡ []
joined_none xs = ap joined (take_nothing xs)

front_none : (xs : List (List Item)) (whole : List Item) → IsFront (joined (take 0 xs)) whole
front_none xs whole = (whole, sym (ap (λ is. is ++ whole) (joined_none xs)))

-- the first of them, and n more
joined_one : (x : List Item) (xs : List (List Item)) → joined (take 1 (x ∷ xs)) ≡ x
joined_one x xs = ap (λ is. x ++ is) (joined_none xs) ∙ append-nil x

joined_more : (n : ℕ) (x : List Item) (xs : List (List Item)) → joined (take (1 + n) (x ∷ xs)) ≡ x ++ joined (take n xs)
joined_more n x xs = ap (λ m. joined (take m (x ∷ xs))) (let e : 1 + n ≡ suc n = omega arith in e)

front_more : (n : ℕ) (x : List Item) (xs : List (List Item)) (whole : List Item) → IsFront (joined (take (n - 1) xs)) whole → IsFront (joined (take (1 + n - 1) (x ∷ xs))) (x ++ whole)
front_more zero x xs whole h = front_none (x ∷ xs) (x ++ whole)
front_more (suc n) x xs whole h =
    let e : suc n - 1 ≡ n = omega arith in
    let f : 1 + suc n - 1 ≡ suc n = omega arith in
    let front : List Item = joined (take n xs) in
    let g : IsFront front whole = subst (λ m. IsFront (joined (take m xs)) whole) e h in
    subst (λ m. IsFront (joined (take m (x ∷ xs))) (x ++ whole)) (sym f) (g.0, ap (λ is. x ++ is) g.1 ∙ sym (append_assoc x front g.0))

-- what the items of two parts cost and say together
figures_then : {xs ys both : List Item} {a b a' b' : ℕ} {v v' : Bool} → both ≡ xs ++ ys → Figures xs a b v → Figures ys a' b' v' → Figures both (a + a') (b + b') (v || v')
figures_then {xs} {ys} {both} {a} {b} {a'} {b'} {v} {v'} e h k = subst (λ is. Figures is (a + a') (b + b') (v || v')) (sym e) (record {
  spent_is = let c = cost_append xs ys in let m = h.spent_is in let n = k.spent_is in omega (arith, c, m, n);
  files_is = let c = files_append xs ys in let m = h.files_is in let n = k.files_is in omega (arith, c, m, n);
  found_is = ap (λ w. w || v') h.found_is ∙ ap (λ w. found xs || w) k.found_is ∙ sym (found_append xs ys);
})

-- ---- runs

pub runs_go_on : (items : List Item) (ls : List Limits) → is_empty items ≡ false → runs_after ls items ≡ runs items ls
runs_go_on [] ls h = absurd cc
runs_go_on (i ∷ items) [] h = refl
runs_go_on (i ∷ items) (l ∷ ls) h = refl

pub runs_end : (ls : List Limits) → runs_after ls [] ≡ []
runs_end [] = refl
runs_end (l ∷ ls) = refl

-- no limits are left
pub parts_none : (further : Further) (root : StorageRoot) (part : Part) (s : Store) (old : Option (List ℕ)) (last : Option Place) → s.tree ≡ root
    → is_empty (due_within further root part last) ≡ false → Parts further root part s s old old last last [] 0 0 false 0 false
unfolding items_at
parts_none further root part s old last over some = record {
  took = record {
    done = [];
    trail = [];
    listed = [];
    heads = [];
    audits = audits_nothing further root s over;
    due_are = refl;
    last_is = refl;
    wrote = Appends-nil old;
    figures = record { spent_is = refl; files_is = refl; found_is = refl };
  };
  runs_are = refl;
  count_is = refl;
  read = record { none = λ e. refl; some = λ e. absurd (omega (arith, e)) };
  ended_is = sym some;
  made = λ e. absurd cc;
}

-- out of memory before a run
pub parts_unbegun : (further : Further) (root : StorageRoot) (part : Part) (s : Store) (old : Option (List ℕ)) (last : Option Place) (limits : List Limits) → s.tree ≡ root
    → PartsStop further root part s s old old last last limits 0 0 false 0 (halt.Fault Memory)
unfolding items_at
parts_unbegun further root part s old last limits over =
    let all : List (List Item) = runs (items_at further root [] (due_within further root part last)) limits in
    record {
      done = [];
      begun = [];
      trail = [];
      others = [];
      listed = [];
      heads = [];
      fails = fails_nothing further root s over;
      first_due = (due_within further root part last, refl);
      last_is = refl;
      runs_begin = joined_none all;
      runs_before = front_none all [];
      one = ([], refl);
      gone = [];
      wrote = Appends-nil old;
      part_of = fault_of_nothing Memory [];
      count_fits = omega arith;
      figures = record { spent_is = refl; files_is = refl; found_is = refl };
      read = record { none = λ e. refl; some = λ e. absurd (omega (arith, e)) };
    }

-- ---- one run alone

first_none : (ps : List Place) → None ≡ slice_get ps 0 → ps ≡ []
first_none [] e = refl
first_none (p ∷ ps) e = absurd cc

module _ (further : Further) (root : StorageRoot) (part : Part) (s t : Store) (old mid : Option (List ℕ)) (from mid_last : Option Place) (l : Limits) (spent files : ℕ) (finding : Bool) (ls : List Limits) where
  -- it took all that was left
  pub parts_ended : Turn further root part s t old mid from mid_last l spent files finding None → Parts further root part s t old mid from mid_last (l ∷ ls) spent files finding 1 true
  parts_ended h =
      let none : due_within further root part mid_last ≡ [] = first_none (due_within further root part mid_last) h.next_is in
      let split : items_at further root h.took.trail (due_within further root part from) ≡ items_at further root h.took.trail h.took.done ++ items_at further root h.took.trail
      (due_within further root part mid_last) = ap (items_at further root h.took.trail) h.took.due_are ∙ items_append further root h.took.trail h.took.done (due_within further root part mid_last) in
      let is_cut : cut (items_at further root h.took.trail (due_within further root part from)) l ≡ items_at further root h.took.trail h.took.done = ap (λ is. cut is l) split ∙ cut_of_paid l _ _ h.paid h.stops in
      let is_left : left (items_at further root h.took.trail (due_within further root part from)) l ≡ [] =
      ap (λ is. left is l) split ∙ left_of_paid l _ _ h.paid h.stops ∙ ap (items_at further root h.took.trail) none ∙ no_items further root h.took.trail in
      let are : runs (items_at further root h.took.trail (due_within further root part from)) (l ∷ ls) ≡ cut (items_at further root h.took.trail (due_within further root part from)) l ∷ [] =
      ap (λ xs. cut (items_at further root h.took.trail (due_within further root part from)) l ∷ runs_after ls xs) is_left ∙ ap
      (λ xs. cut (items_at further root h.took.trail (due_within further root part from)) l ∷ xs) (runs_end ls) in
      record {
        took = h.took;
        runs_are = ap joined are ∙ append-nil _ ∙ is_cut;
        count_is = sym (ap length are);
        read = record { none = λ e. absurd (omega (arith, e)); some = λ e. let r = h.read in omega (arith, r) };
        ended_is = sym (none_empty (due_within further root part mid_last) none);
        made = λ e. omega arith;
      }

  -- it stopped
  pub parts_stopped : (why : ReportStop) → RunStopsWithin (call_of further root s t old mid) part from mid_last l spent files finding why
      → PartsStop further root part s t old mid from mid_last (l ∷ ls) spent files finding 1 why
  parts_stopped why h =
      let w = h.stops in
      let above : List Item = items_in further root h.trail part from in
      let left_items : List Item = left (items_in further root h.trail part from) l in
      let later : List (List Item) = runs_after ls (left (items_at further root h.trail (due_within further root part from)) l) in
      let split : above ≡ w.whole ++ (w.others ++ left_items) =
      sym (cut_and_left above l) ∙ ap (λ is. is ++ left_items) w.items_are ∙ append_assoc w.whole w.others left_items in
      let done : List Place = places w.whole in
      let done_is : w.whole ≡ items_at further root h.trail done = sym (front_is further root part h.trail from w.whole (w.others ++ left_items) split) in
      let next_is : due_within further root part (last_or from done) ≡ places (w.others ++ left_items) =
      sym (places_of_items further root h.trail (due_within further root part (last_or from done))) ∙ ap places (rest_is further root part h.trail from w.whole (w.others ++ left_items) split) in
      let first : places w.others ≡ w.begun ++ (w.one.0 ++ places (drop 1 w.others)) =
      ap places (sym (take-append-drop 1 w.others)) ∙ map-append (λ i. i.place) (take 1 w.others) (drop 1 w.others)
      ∙ ap (λ ps. ps ++ places (drop 1 w.others)) w.one.1 ∙ append_assoc w.begun w.one.0 (places (drop 1 w.others)) in
      let behind : List Place = (w.one.0 ++ places (drop 1 w.others)) ++ places left_items in
      let next_begun : due_within further root part (last_or from done) ≡ w.begun ++ behind =
      next_is ∙ map-append (λ i. i.place) w.others left_items ∙ ap (λ ps. ps ++ places left_items) first ∙ append_assoc w.begun (w.one.0 ++ places (drop 1 w.others)) (places left_items) in
      record {
        done = done;
        begun = w.begun;
        trail = h.trail;
        others = w.others;
        listed = h.looks.down ++ h.looks.listed;
        heads = h.looks.held ++ h.looks.heads;
        fails = h.looks.fails;
        first_due = (behind, due_parts further root part h.trail from w.whole (w.others ++ left_items) split ∙ ap (λ ps. done ++ ps) next_begun ∙ sym (append_assoc done w.begun behind));
        last_is = w.last_is;
        runs_begin = joined_one _ later ∙ ap (λ is. cut is l) (sym (above_in further root part from h.trail)) ∙ w.items_are ∙ ap (λ is. is ++ w.others) done_is;
        runs_before = front_none (cut (items_at further root h.trail (due_within further root part from)) l ∷ later) (items_at further root h.trail done);
        one = w.one;
        gone = w.part;
        wrote = subst (λ is. Appends old mid (text is ++ w.part)) done_is w.wrote;
        part_of = w.part_of;
        count_fits = omega arith;
        figures = subst (λ is. Figures is spent files finding) done_is h.figures;
        read = record {
          none = λ e. absurd (omega (arith, e));
          some = λ e.
              let f = front_length h.looks.held (holder root (entry part from)) (subst (IsFront h.looks.held) (sym (held_in part from root)) h.looks.held_front) in
              let g = front_length h.looks.heads (read_in root part from None) h.looks.heads_front in
              let m = length-append h.looks.held h.looks.heads in
              omega (arith, f, g, m);
        };
      }

-- ---- a run that left something, and those that follow

holder_one : (root : StorageRoot) (last : Option Place) → length (holder root last) ≤ 1
holder_one root None = omega arith
holder_one root (Some p) = by (zone root p)
  where
    one : (o : Place) (b : Bool) → length (cond b (o ∷ []) []) ≤ 1
    one o true = omega arith
    one o false = omega arith

    by : (z : Zone) → length (filter (reads_inventory root) (holder_of z)) ≤ 1
    by skipped = omega arith
    by hierarchy = omega arith
    by (inside o q) = one o (reads_inventory root o)

first_some : (next : Place) (ps : List Place) → Some next ≡ slice_get ps 0 → (behind : List Place) × (ps ≡ next ∷ behind)
first_some next [] e = absurd cc
first_some next (p ∷ ps) e = let same : p ≡ next = cc in (ps, ap (λ q. q ∷ ps) same)

among_behind : (ps : List Place) (p : Place) (qs : List Place) → IsAmong (ps ++ p ∷ qs) p
among_behind [] p qs = inl refl
among_behind (x ∷ ps) p qs = inr (among_behind ps p qs)

module _ (further : Further) (root : StorageRoot) (part : Part) (s t : Store) (old mid : Option (List ℕ)) (from mid_last : Option Place) (l : Limits) (spent files : ℕ)
    (finding : Bool) (ls : List Limits) (next : Place) (h : Turn further root part s t old mid from mid_last l spent files finding (Some next)) where
  -- what is next is a hashed file
  pub record IsNext : Type 0 where
    pub behind : List Place
    pub due_is : due_within further root part mid_last ≡ next ∷ behind
    pub hashed : is_hashed further root next ≡ true

  pub next_there : IsNext
  next_there =
      let spent_here : ℕ = total_cost (items_at further root h.took.trail h.took.done) in
      let opened_here : ℕ = total_files (items_at further root h.took.trail h.took.done) in
      let first = first_some next (due_within further root part mid_last) h.next_is in
      record {
        behind = first.0;
        due_is = first.1;
        hashed =
            stop_hashed further root h.took.trail l spent_here opened_here next first.0 (subst (λ qs. IsStop l spent_here opened_here (items_at further root h.took.trail qs)) first.1 h.stops);
      }

  pub next_some : is_empty (due_within further root part mid_last) ≡ false
  next_some = ap is_empty next_there.due_is

  -- what both read
  reads_then : (heads : List Place) (count : ℕ) → ReadFew root part mid_last heads count → ReadFew root part from (h.took.heads ++ heads) (1 + count)
  reads_then heads count k =
      let there : IsAmong (due_within further root part from) next = subst (λ ps. IsAmong ps next)
      (sym (h.took.due_are ∙ ap (λ ps. h.took.done ++ ps) next_there.due_is)) (among_behind h.took.done next next_there.behind) in
      let parts = read_parts further root part mid_last next next_there.behind next_there.due_is next_there.hashed from there in
      record { none = λ e. absurd (omega (arith, e)); some = λ e. by count k.none k.some parts }
    where
      by : (n : ℕ) → (n ≡ 0 → length heads ≡ 0) → (1 ≤ n → length heads < length (holder root (entry part mid_last)) + length (read_in root part mid_last None) + n)
          → length (read_in root part from (Some next)) + length (read_in root part mid_last None) ≡ length (read_in root part from None)
          → length (h.took.heads ++ heads) < length (holder root (entry part from)) + length (read_in root part from None) + (1 + n)
      by zero none some parts = let e = none refl in let r = h.read in let m = length-append h.took.heads heads in omega (arith, e, r, m, parts)
      by (suc n) none some parts =
          let e = some (omega arith) in
          let r = h.read in
          let m = length-append h.took.heads heads in
          let one = holder_one root (entry part mid_last) in
          omega (arith, e, r, m, one, parts)

  module _ (u : Store) (new : Option (List ℕ)) (last : Option Place) (spent' files' : ℕ) (finding' : Bool) (count : ℕ) where
    -- at a trail that goes on over places that follow, the runs are the first cut and those of the
    -- rest
    runs_then : (os : List Opening) (ps rest : List Place) → content_trail further root os ≡ hashed_among further root ps → due_within further root part mid_last ≡ ps ++ rest
        → runs (items_at further root (h.took.trail ++ os) (due_within further root part from)) (l ∷ ls) ≡ items_at further root h.took.trail h.took.done ∷ runs (items_at further root os (due_within further root part mid_last)) ls
    runs_then os ps rest opened is =
        let up : IsAscending place_cmp (h.took.done ++ due_within further root part mid_last) = subst (IsAscending place_cmp) h.took.due_are (due_within_ascends further root part from) in
        let up_front : IsAscending place_cmp (h.took.done ++ ps) =
        ascends_left place_cmp (h.took.done ++ ps) rest (subst (IsAscending place_cmp) (ap (λ qs. h.took.done ++ qs) is ∙ sym (append_assoc h.took.done ps rest)) up) in
        let first : items_at further root (h.took.trail ++ os) h.took.done ≡ items_at further root h.took.trail h.took.done = items_before further root h.took.trail os h.took.done ps up_front opened in
        let then : items_at further root (h.took.trail ++ os) (due_within further root part mid_last) ≡ items_at further root os (due_within further root part mid_last) =
        items_behind further root h.took.trail os h.took.done (due_within further root part mid_last) up h.took.audits.opened in
        let split : items_at further root (h.took.trail ++ os) (due_within further root part from) ≡ items_at further root h.took.trail h.took.done ++ items_at further root os (due_within further root part mid_last) =
        ap (items_at further root (h.took.trail ++ os)) h.took.due_are ∙ items_append further root (h.took.trail ++ os) h.took.done (due_within further root part mid_last)
        ∙ ap (λ is. is ++ items_at further root (h.took.trail ++ os) (due_within further root part mid_last)) first ∙ ap (λ is. items_at further root h.took.trail h.took.done ++ is) then in
        let stop = stop_alike further root h.took.trail os l _ _ (due_within further root part mid_last) h.stops in
        let some : is_empty (items_at further root os (due_within further root part mid_last)) ≡ false = ap (λ qs. is_empty (items_at further root os qs)) next_there.due_is ∙ some_items further root os next next_there.behind in
        ap (λ is. runs is (l ∷ ls)) split
        ∙ ap (λ xs. xs ∷ runs_after ls (left (items_at further root h.took.trail h.took.done ++ items_at further root os (due_within further root part mid_last)) l)) (cut_of_paid l _ _ h.paid stop)
        ∙ ap (λ xs. items_at further root h.took.trail h.took.done ∷ runs_after ls xs) (left_of_paid l _ _ h.paid stop)
        ∙ ap (λ xs. items_at further root h.took.trail h.took.done ∷ xs) (runs_go_on (items_at further root os (due_within further root part mid_last)) ls some)

    parts_then : (ended : Bool) → Parts further root part t u mid new mid_last last ls spent' files' finding' count ended
        → Parts further root part s u old new from last (l ∷ ls) (spent + spent') (files + files') (finding || finding') (1 + count) ended
    parts_then ended k =
        let a = h.took in
        let b = k.took in
        let due_are : due_within further root part from ≡ (a.done ++ b.done) ++ due_within further root part last =
        a.due_are ∙ ap (λ qs. a.done ++ qs) b.due_are ∙ sym (append_assoc a.done b.done (due_within further root part last)) in
        let up : IsAscending place_cmp (a.done ++ b.done) = ascends_left place_cmp (a.done ++ b.done) (due_within further root part last)
        (subst (IsAscending place_cmp) due_are (due_within_ascends further root part from)) in
        let first : List Item = items_at further root a.trail a.done in
        let second : List Item = items_at further root b.trail b.done in
        let same : items_at further root (a.trail ++ b.trail) (a.done ++ b.done) ≡ first ++ second = items_then further root a.trail b.trail a.done b.done up a.audits.opened b.audits.opened in
        let are = runs_then b.trail b.done (due_within further root part last) b.audits.opened b.due_are in
        record {
          took = record {
            done = a.done ++ b.done;
            trail = a.trail ++ b.trail;
            listed = a.listed ++ b.listed;
            heads = a.heads ++ b.heads;
            audits = audits_on further root s t u a.done b.done a.listed b.listed a.heads b.heads a.trail b.trail a.audits b.audits;
            due_are = due_are;
            last_is = b.last_is ∙ ap (λ x. last_or x b.done) a.last_is ∙ last_then from a.done b.done;
            wrote = subst (Appends old new) (sym (text_append first second) ∙ ap text (sym same)) (Appends-trans old mid new _ _ a.wrote b.wrote);
            figures = figures_then same a.figures b.figures;
          };
          runs_are = ap joined are ∙ ap (λ is. first ++ is) k.runs_are ∙ sym same;
          count_is = let n : length (runs (items_at further root (a.trail ++ b.trail) (due_within further root part from)) (l ∷ ls)) ≡ suc
              (length (runs (items_at further root b.trail (due_within further root part mid_last)) ls)) = ap length are in let c = k.count_is in omega (arith, n, c);
          read = reads_then b.heads count k.read;
          ended_is = k.ended_is;
          made = λ e. omega arith;
        }

    stops_then : (why : ReportStop) → PartsStop further root part t u mid new mid_last last ls spent' files' finding' count why
        → PartsStop further root part s u old new from last (l ∷ ls) (spent + spent') (files + files') (finding || finding') (1 + count) why
    stops_then why k =
        let rest : List Place = k.first_due.0 in
        let both : (h.took.done ++ k.done) ++ k.begun ≡ h.took.done ++ (k.done ++ k.begun) = append_assoc h.took.done k.done k.begun in
        let due_are : due_within further root part from ≡ (h.took.done ++ (k.done ++ k.begun)) ++ rest =
        h.took.due_are ∙ ap (λ qs. h.took.done ++ qs) k.first_due.1 ∙ sym (append_assoc h.took.done (k.done ++ k.begun) rest) in
        let all_up : IsAscending place_cmp (h.took.done ++ (k.done ++ k.begun)) =
        ascends_left place_cmp (h.took.done ++ (k.done ++ k.begun)) rest (subst (IsAscending place_cmp) due_are (due_within_ascends further root part from)) in
        let up : IsAscending place_cmp (h.took.done ++ k.done) = ascends_left place_cmp (h.took.done ++ k.done) k.begun (subst (IsAscending place_cmp) (sym both) all_up) in
        let first : List Item = items_at further root h.took.trail h.took.done in
        let second : List Item = items_at further root k.trail k.done in
        let before : items_at further root (h.took.trail ++ k.trail) h.took.done ≡ first = items_before further root h.took.trail k.trail h.took.done (k.done ++ k.begun) all_up k.fails.opened in
        let behind : items_at further root (h.took.trail ++ k.trail) k.done ≡ second = items_behind further root h.took.trail k.trail h.took.done k.done up h.took.audits.opened in
        let same : items_at further root (h.took.trail ++ k.trail) (h.took.done ++ k.done) ≡ first ++ second =
        items_append further root (h.took.trail ++ k.trail) h.took.done k.done ∙ ap (λ is. is ++ items_at further root (h.took.trail ++ k.trail) k.done) before ∙ ap (λ is. first ++ is) behind in
        let later : List (List Item) = runs (items_at further root k.trail (due_within further root part mid_last)) ls in
        let are = runs_then k.trail (k.done ++ k.begun) rest k.fails.opened k.first_due.1 in
        let texts : text first ++ (text second ++ k.gone) ≡ text (items_at further root (h.took.trail ++ k.trail) (h.took.done ++ k.done)) ++ k.gone =
        sym (append_assoc (text first) (text second) k.gone) ∙ ap (λ xs. xs ++ k.gone) (sym (text_append first second) ∙ ap text (sym same)) in
        record {
          done = h.took.done ++ k.done;
          begun = k.begun;
          trail = h.took.trail ++ k.trail;
          others = k.others;
          listed = h.took.listed ++ k.listed;
          heads = h.took.heads ++ k.heads;
          fails = subst (λ ps. Fails further root s u ps (h.took.listed ++ k.listed) (h.took.heads ++ k.heads) (h.took.trail ++ k.trail) (stop_place why)) (sym both)
              (audits_fail further root s t u h.took.done (k.done ++ k.begun) h.took.listed k.listed h.took.heads k.heads h.took.trail k.trail _ h.took.audits k.fails);
          first_due = (rest, due_are ∙ ap (λ qs. qs ++ rest) (sym both));
          last_is = k.last_is ∙ ap (λ x. last_or x k.done) h.took.last_is ∙ last_then from h.took.done k.done;
          runs_begin = ap (λ xs. joined (take (1 + count) xs)) are ∙ joined_more count first later ∙ ap (λ is. first ++ is) k.runs_begin
              ∙ sym (append_assoc first second k.others) ∙ ap (λ is. is ++ k.others) (sym same);
          runs_before = subst (IsFront (joined (take (1 + count - 1) (runs (items_at further root (h.took.trail ++ k.trail) (due_within further root part from)) (l ∷ ls))))) (sym same)
              (subst (λ xs. IsFront (joined (take (1 + count - 1) xs)) (first ++ second)) (sym are) (front_more count first later second k.runs_before));
          one = k.one;
          gone = k.gone;
          wrote = subst (Appends old new) texts (Appends-trans old mid new _ _ h.took.wrote k.wrote);
          part_of = k.part_of;
          count_fits = let n : length (runs (items_at further root (h.took.trail ++ k.trail) (due_within further root part from)) (l ∷ ls)) ≡ suc
              (length (runs (items_at further root k.trail (due_within further root part mid_last)) ls)) = ap length are in let c = k.count_fits in omega (arith, n, c);
          figures = figures_then same h.took.figures k.figures;
          read = reads_then k.heads count k.read;
        }

    pub ends_then : (end : CycleStatus) → PartsEnd further root part t u mid new mid_last last ls spent' files' finding' count end
        → PartsEnd further root part s u old new from last (l ∷ ls) (spent + spent') (files + files') (finding || finding') (1 + count) end
    ends_then Ended k = parts_then true k
    ends_then Spent k = parts_then false k
    ends_then (Stopped why) k = stops_then why k
