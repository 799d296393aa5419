-- The headline of a cycle by its runs: if no failure was counted, each starts a file only below
-- its limits.
use Rattle.std.proofs.Common.{◌≡◌, ◌⊎◌, inl, inr, ℕ, zero, suc, ◌+◌, ◌<◌, ◌≤◌, List, [], ◌∷◌, sym, ◌∙◌, ap, subst, true, false, Bool, Some, None, Option, take, length, arith}
use Rattle.std.specs.{Prelude.{slice_get}, Io.KnownBytes.{Appends}, List.{last_or}}
use Rattle.ocfl_tree.specs.{Place.{Place}, StorageRoot.{StorageRoot}, Store.{Store}}
use Rattle.ocfl_report.specs.{Line.{Item}, Text.{text}}
use Rattle.ocfl_rules.specs.{Audit.{audit, after, total_cost}, Due.{hashed_among}}
use Rattle.ocfl_rules.specs.Parts.{Part, whole, within}
use Rattle.ocfl_rules.specs.Runs.{Limits, files_of, total_files, StaysWithin, cut, left, runs, runs_after}
use Rattle.ocfl_rules.specs.Trail.{unread_of}
use Rattle.ocfl_cursor.specs.Cursor.{Cursor, new_cursor}
use Rattle.ocfl_report.specs.declared.further.Further.{Further}
use Rattle.ocfl_scrub.specs.Call.{Call, call_of, IsUnfailing}
use Rattle.ocfl_scrub.specs.Chaining.{MadeRun, IsMadeOf, CycleOfRunsWithin}
use Rattle.ocfl_scrub.specs.Cycling.{StartsBelow, EachStartsBelow, HeadlineOf, HeadlineOfPart}
use Rattle.ocfl_scrub.specs.Running.{place_in, state_after, RunsWithin, RunEndsWithin, RunsFromWithin}
use Rattle.ocfl_scrub.specs.{Together.{CyclesToWithin}, Written.{places}}
use Rattle.ocfl_scrub.specs.declared.cycling.CycleEnd.{CycleEnd}
use Rattle.ocfl_scrub.specs.declared.cycling.CycleStatus.{CycleStatus}
use Rattle.ocfl_scrub.specs.declared.running.RunStatus.{RunStatus}
use Rattle.ocfl_scrub.specs.declared.cycling.CycleStatus.TheVariants as cycle
use Rattle.ocfl_scrub.specs.declared.running.RunStatus.TheVariants as run
use Rattle.ocfl_scrub.proofs.AuditLaws.{none_left}
use Rattle.ocfl_scrub.proofs.ChainParts.{calls_of, AreMade, AreSpent, last_end, LastEnds, Apart, apart}
use Rattle.ocfl_scrub.proofs.ChainLaws.{given, place_there, spent_not_ended, counted, together}
use Rattle.ocfl_scrub.proofs.{CutLaws.{cut_and_left, taken_test}, CycleEndLaws.{part_headline}}
use Rattle.ocfl_scrub.proofs.{PartLaws.{cut_paid}, Paying.{Paid}}
use Rattle.ocfl_scrub.proofs.{RunLaws.{no_first, some_item}, RunPlaces.{after_front}}
use Rattle.ocfl_scrub.proofs.RunsJoined.{runs_go_on, runs_end}

-- ---- what is paid for stays within the limits

module _ (l : Limits) where
  paid_within : (s f : ℕ) (items : List Item) → Paid l s f items → (k : ℕ) (i : Item) → k < length items → slice_get items k ≡ Some i → 0 < i.cost
      → (s + total_cost (take k items) < l.budget) × (f + total_files (take k items) < l.files)
  paid_within s f [] h k i fits e c = absurd (omega (arith, fits))
  paid_within s f (x ∷ items) h zero i fits e c =
      let same : x ≡ i = cc in
      let r = taken_test l s f x.cost h.0 (subst (λ y. 0 < y.cost) (sym same) c) in
      (omega (arith, r.0), omega (arith, r.1))
  paid_within s f (x ∷ items) h (suc k) i fits e c =
      let r = paid_within (s + x.cost) (f + files_of x.cost) items h.1 k i (omega (arith, fits)) e c in (omega (arith, r.0), omega (arith, r.1))

  stays_within : (items : List Item) → Paid l 0 0 items → StaysWithin items l (length items)
  stays_within items h k i fits e c = let r = paid_within 0 0 items h k i fits e c in (omega (arith, r.0), omega (arith, r.1))

module _ (further : Further) (root : StorageRoot) (part : Part) where
  -- ---- failures

  grows : (s t : Store) (old new : Option (List ℕ)) (from last : Option Place) (l : Limits) (spent files : ℕ) (finding : Bool) (end : RunStatus)
      → RunEndsWithin (call_of further root s t old new) part from last l spent files finding end → s.failures ≤ t.failures
  grows s t old new from last l spent files finding run.Ended h = let e = h.looks.audits.did.failures_are in omega (arith, e)
  grows s t old new from last l spent files finding run.Spent h = let e = h.1.looks.audits.did.failures_are in omega (arith, e)
  grows s t old new from last l spent files finding (run.Stopped why) h = let e = h.looks.fails.did.failures_are in omega (arith, e)
  grows s t old new from last l spent files finding run.Worn h = absurd h

  -- what a run of a chain did
  pub now : (s : Store) (old : Option (List ℕ)) (c : Cursor) (r : MadeRun) → RunsFromWithin r.call part c r.limits r.ran → r.call ≡ call_of further root s r.call.after old r.call.new
      → RunsFromWithin (call_of further root s r.call.after old r.call.new) part c r.limits r.ran
  now s old c r did is = subst (λ k. RunsFromWithin k part c r.limits r.ran) is did

  all_grow : (made : List MadeRun) (c : Cursor) (s t : Store) (old new : Option (List ℕ)) → AreMade part c made → IsMadeOf (call_of further root s t old new) (calls_of made)
      → s.failures ≤ t.failures
  all_grow [] c s t old new h m = let e : t.failures ≡ s.failures = ap (λ x. x.failures) m.0 in omega (arith, e)
  all_grow (r ∷ rest) c s t old new h m =
      let k = now s old c r h.0 m.0 in
      let a = grows s r.call.after old r.call.new (place_in c.state) k.last r.limits r.ran.spent r.ran.files r.ran.found r.ran.end k.run in
      let b = all_grow rest r.ran.cursor r.call.after t r.call.new new h.1 m.1 in
      omega (arith, a, b)

  -- ---- one run

  -- what the part has above a place
  abbrev above : Option Place → List Item
  above from = after (within part (audit further root [])) from

  record Step (k : Call) (from : Option Place) (l : Limits) (next last : Option Place) : Type 0 where
    below : StartsBelow l k (cut (above from) l)
    next_is : next ≡ slice_get (places (left (above from) l)) 0
    goes_on : above last ≡ left (above from) l

  step : (s t : Store) (old new : Option (List ℕ)) (from last : Option Place) (l : Limits) (spent files : ℕ) (finding : Bool) (next : Option Place)
      → RunsWithin (call_of further root s t old new) part from last l spent files finding next → t.failures ≡ s.failures → Step (call_of further root s t old new) from l next last
  step s t old new from last l spent files finding next h same =
      let none : unread_of further root h.trail ≡ [] = none_left (unread_of further root h.trail) s.failures (sym same ∙ h.looks.audits.did.failures_are) in
      let last_is : last ≡ last_or from (places (cut (above from) l)) = h.last_is ∙ ap (λ u. last_or from (places (cut (after (within part (audit further root u)) from) l))) none in
      record {
        below = record {
          wrote = subst (λ u. Appends old new (text (cut (after (within part (audit further root u)) from) l))) none h.wrote;
          trail = h.trail;
          opened = h.looks.audits.did.openings_are;
          files = h.looks.audits.opened ∙ ap (λ u. hashed_among further root (places (cut (after (within part (audit further root u)) from) l))) none;
          below = stays_within l (cut (above from) l) (cut_paid l (above from));
        };
        next_is = h.next_is ∙ ap (λ u. slice_get (places (left (after (within part (audit further root u)) from) l)) 0) none;
        goes_on = ap above last_is ∙ after_front further root [] part from (cut (above from) l) (left (above from) l) (sym (cut_and_left (above from) l));
      }

  -- ---- the runs of a chain

  module _ (s : Store) (old : Option (List ℕ)) (c : Cursor) (r : MadeRun) (did : RunsFromWithin r.call part c r.limits r.ran)
      (is_call : r.call ≡ call_of further root s r.call.after old r.call.new) (same : r.call.after.failures ≡ s.failures) where
    abbrev from : Option Place
    from = place_in c.state

    abbrev k : RunsFromWithin (call_of further root s r.call.after old r.call.new) part c r.limits r.ran
    k = now s old c r did is_call

    abbrev run_as : (end : RunStatus) → r.ran.end ≡ end → RunEndsWithin (call_of further root s r.call.after old r.call.new) part from k.last r.limits r.ran.spent r.ran.files r.ran.found end
    run_as end e = subst (RunEndsWithin (call_of further root s r.call.after old r.call.new) part from k.last r.limits r.ran.spent r.ran.files r.ran.found) e k.run

    here : (next : Option Place) → RunsWithin (call_of further root s r.call.after old r.call.new) part from k.last r.limits r.ran.spent r.ran.files r.ran.found next
        → Step r.call from r.limits next k.last
    here next h = subst (λ x. Step x from r.limits next k.last) (sym is_call) (step s r.call.after old r.call.new from k.last r.limits r.ran.spent r.ran.files r.ran.found next h same)

    -- the last, if it ended
    ended_below : (unused : List Limits) → r.ran.end ≡ run.Ended → EachStartsBelow (r.limits ∷ unused) (r.call ∷ []) (runs (above from) (r.limits ∷ unused))
    ended_below unused e =
        let x = here None (run_as run.Ended e) in
        (x.below, ap (runs_after unused) (no_first (left (above from) r.limits) x.next_is) ∙ runs_end unused)

    -- the last, if its limits ended it, and there are no others
    spent_below : (unused : List Limits) → r.ran.end ≡ run.Spent → unused ≡ [] → EachStartsBelow (r.limits ∷ unused) (r.call ∷ []) (runs (above from) (r.limits ∷ unused))
    spent_below unused e none =
        let h = run_as run.Spent e in
        let x = here (Some h.0) h.1 in
        (x.below, ap (λ ls. runs_after ls (left (above from) r.limits)) none)

    -- another
    then_below : (ls : List Limits) (calls : List Call) → r.ran.end ≡ run.Spent → EachStartsBelow ls calls (runs (above (place_in r.ran.cursor.state)) ls)
        → EachStartsBelow (r.limits ∷ ls) (r.call ∷ calls) (runs (above from) (r.limits ∷ ls))
    then_below ls calls e later =
        let h = run_as run.Spent e in
        let x = here (Some h.0) h.1 in
        let place_is : place_in r.ran.cursor.state ≡ k.last = ap (λ y. place_in y.state) k.cursor_is ∙ ap (λ y. place_in (state_after y k.last)) e ∙ place_there k.last in
        let rest : List Item = left (above from) r.limits in
        let on : runs_after ls rest ≡ runs (above (place_in r.ran.cursor.state)) ls =
        runs_go_on rest ls (some_item rest h.0 x.next_is) ∙ ap (λ is. runs is ls) (sym (ap above place_is ∙ x.goes_on)) in
        (x.below, subst (EachStartsBelow ls calls) (sym on) later)

  -- in a chain that counts no failure, its first run counts none
  same_here : (r : MadeRun) (rest : List MadeRun) (c : Cursor) (s t : Store) (old new : Option (List ℕ)) → AreMade part c (r ∷ rest)
      → IsMadeOf (call_of further root s t old new) (calls_of (r ∷ rest)) → t.failures ≡ s.failures → r.call.after.failures ≡ s.failures
  same_here r rest c s t old new h m same =
      let k = now s old c r h.0 m.0 in
      let a = grows s r.call.after old r.call.new (place_in c.state) k.last r.limits r.ran.spent r.ran.files r.ran.found r.ran.end k.run in
      let b = all_grow rest r.ran.cursor r.call.after t r.call.new new h.1 m.1 in
      omega (arith, a, b, same)

  starts : (made : List MadeRun) (unused : List Limits) (c : Cursor) (s t : Store) (old new : Option (List ℕ)) → AreMade part c made
      → IsMadeOf (call_of further root s t old new) (calls_of made) → AreSpent made → (last_end made ≡ run.Ended) ⊎ ((last_end made ≡ run.Spent) × (unused ≡ []))
      → t.failures ≡ s.failures → EachStartsBelow (given made unused) (calls_of made) (runs (above (place_in c.state)) (given made unused))
  starts [] unused c s t old new h m spent (inl e) same = absurd (spent_not_ended e)
  starts [] unused c s t old new h m spent (inr e) same = ap (runs (above (place_in c.state))) e.1
  starts (r ∷ []) unused c s t old new h m spent (inl e) same = ended_below s old c r h.0 m.0 (same_here r [] c s t old new h m same) unused e
  starts (r ∷ []) unused c s t old new h m spent (inr e) same = spent_below s old c r h.0 m.0 (same_here r [] c s t old new h m same) unused e.0 e.1
  starts (r ∷ q ∷ rest) unused c s t old new h m spent ends same =
      let first = same_here r (q ∷ rest) c s t old new h m same in
      then_below s old c r h.0 m.0 first (given (q ∷ rest) unused) (calls_of (q ∷ rest)) spent.0
      (starts (q ∷ rest) unused r.ran.cursor r.call.after t r.call.new new h.1 m.1 spent.1 ends (same ∙ sym first))

-- ---- a cycle

module _ (call : Call) (part : Part) (limits : List Limits) (ran : CycleEnd) (h : CycleOfRunsWithin call part limits ran) (same : IsUnfailing call) where
  abbrev a : Apart call part limits ran
  a = apart call part limits ran h

  each_below : (last_end a.runs ≡ run.Ended) ⊎ ((last_end a.runs ≡ run.Spent) × (a.unused ≡ []))
      → EachStartsBelow limits (calls_of a.runs) (runs (within part (audit call.further call.root [])) limits)
  each_below ends = subst (λ ls. EachStartsBelow ls (calls_of a.runs) (runs (within part (audit call.further call.root [])) ls)) (sym a.limits_are)
      (starts call.further call.root part a.runs a.unused (new_cursor call.further) call.before call.after call.old call.new a.chained a.made_of a.spent ends same)

  by_end : (end : CycleStatus) → CyclesToWithin call part limits ran.cursor ran.found end → LastEnds a.runs a.unused end → HeadlineOfPart call part limits ran.runs end
  by_end cycle.Ended k ends = subst (λ n. HeadlineOfPart call part limits n cycle.Ended) (sym (counted call part limits ran h))
      (part_headline call.further call.root part call.before call.after call.old call.new k.last limits ran.cursor.spent ran.cursor.files ran.found ran.cursor.runs true k.cycle
      (calls_of a.runs) a.made_of (each_below (inl ends)) same)
  by_end cycle.Spent k ends = subst (λ n. HeadlineOfPart call part limits n cycle.Spent) (sym (counted call part limits ran h))
      (part_headline call.further call.root part call.before call.after call.old call.new k.last limits ran.cursor.spent ran.cursor.files ran.found ran.cursor.runs false k.cycle
      (calls_of a.runs) a.made_of (each_below (inr ends)) same)
  by_end (cycle.Stopped why) k ends = tt

  pub headline_of_part : HeadlineOfPart call part limits ran.runs ran.end
  headline_of_part = by_end ran.end (together call part limits ran h) a.ends

pub headline_of_whole : (call : Call) (limits : List Limits) (ran : CycleEnd) → CycleOfRunsWithin call whole limits ran → IsUnfailing call → HeadlineOf call limits ran.runs ran.end
headline_of_whole call limits ran h same = headline_of_part call whole limits ran h same
