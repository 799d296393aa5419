-- What the runs of a chain do together.
use Rattle.std.proofs.Common.{◌≡◌, ◌⊎◌, inl, inr, ℕ, suc, ◌+◌, ◌≤◌, List, [], ◌∷◌, ◌++◌, refl, sym, ◌∙◌, ap, subst, true, false, Bool, Some, None, Option, map, length, arith}
use Rattle.std.specs.{Prelude.{◌||◌}, List.{list_any}}
use Rattle.ocfl_tree.specs.{Place.{Place}, StorageRoot.{StorageRoot}, Store.{Store}}
use Rattle.ocfl_rules.specs.{Lines.{is_empty}, Parts.{Part}, Runs.{Limits}}
use Rattle.ocfl_cursor.specs.{Cursor.{State, Cursor, new_cursor}, Moves.{after_run}}
use Rattle.ocfl_item.specs.declared.fault.Fault.TheVariants.{Memory}
use Rattle.ocfl_report.specs.declared.further.Further.{Further}
use Rattle.ocfl_scrub.specs.declared.stop.ReportStop.TheVariants as halt
use Rattle.ocfl_scrub.specs.Types.{ReportStop}
use Rattle.ocfl_scrub.specs.Call.{Call, call_of}
use Rattle.ocfl_scrub.specs.Running.{place_in, state_after, begun_in, RunEndsWithin, RunsFromWithin}
use Rattle.ocfl_scrub.specs.{Starting.{due_within}, Chaining.{MadeRun, IsMadeOf, CycleOfRunsWithin}}
use Rattle.ocfl_scrub.specs.Together.{CyclesToWithin, state_at, cycle_state, cycle_cursor}
use Rattle.ocfl_scrub.specs.declared.running.RunStatus.{RunStatus}
use Rattle.ocfl_scrub.specs.declared.cycling.CycleEnd.{CycleEnd}
use Rattle.ocfl_scrub.specs.declared.cycling.CycleStatus.{CycleStatus}
use Rattle.ocfl_scrub.specs.declared.running.RunStatus.TheVariants as run
use Rattle.ocfl_scrub.specs.declared.cycling.CycleStatus.TheVariants as cycle
use Rattle.ocfl_scrub.proofs.{TakeLaws.{or_none}, RunPlaces.{Turn, turn_of}}
use Rattle.ocfl_scrub.proofs.RunsJoined.{PartsEnd, parts_none, parts_unbegun, parts_ended, parts_stopped, next_some, ends_then}
use Rattle.ocfl_scrub.proofs.{CycleEndLaws.{cycles, cycle_stops, cycles_none}, ChainRuns.{run_over}}
use Rattle.ocfl_scrub.proofs.ChainParts.{calls_of, AreMade, AreSpent, last_end, last_cursor, LastEnds, apart}

-- ---- cursors

pub place_there : (last : Option Place) → place_in (state_at last) ≡ last
place_there None = refl
place_there (Some p) = refl

pub begun_there : (c : Cursor) (last : Option Place) → begun_in c (state_at last) ≡ c
begun_there c None = refl
begun_there c (Some p) = refl

-- n runs later
abbrev moved : Cursor → ℕ → ℕ → ℕ → State → Cursor
moved c count spent files state =
    record { cycle = c.cycle; runs = c.runs + count; spent = c.spent + spent; files = c.files + files; further = c.further; state = state }

figures_are : (y a a' b b' d d' : ℕ) (o : Further) (s : State) → a ≡ a' → b ≡ b' → d ≡ d'
    → (let c : Cursor = record { cycle = y; runs = a; spent = b; files = d; further = o; state = s } in c)
    ≡ (let c : Cursor = record { cycle = y; runs = a'; spent = b'; files = d'; further = o; state = s } in c)
figures_are y a a' b b' d d' o s e f g = cc

moved_none : (c : Cursor) (s : State) → c.state ≡ s → c ≡ moved c 0 0 0 s
moved_none c s e =
    let k : c ≡ record { cycle = c.cycle; runs = c.runs; spent = c.spent; files = c.files; further = c.further; state = s } =
    ap (λ x. record { cycle = c.cycle; runs = c.runs; spent = c.spent; files = c.files; further = c.further; state = x }) e in
    k ∙ figures_are c.cycle c.runs (c.runs + 0) c.spent (c.spent + 0) c.files (c.files + 0) c.further s (omega arith) (omega arith) (omega arith)

moved_on : (c : Cursor) (n a a' b b' : ℕ) (s t : State) → moved (after_run c a b s) n a' b' t ≡ moved c (suc n) (a + a') (b + b') t
moved_on c n a a' b b' s t =
    figures_are c.cycle (c.runs + 1 + n) (c.runs + suc n) (c.spent + a + a') (c.spent + (a + a')) (c.files + b + b') (c.files + (b + b')) c.further t (omega arith) (omega arith) (omega arith)

moved_new : (further : Further) (n spent files : ℕ) (s : State) → moved (new_cursor further) n spent files s ≡ cycle_cursor further n spent files s
moved_new further n spent files s = figures_are 1 (0 + n) n (0 + spent) spent (0 + files) files further s (omega arith) (omega arith) (omega arith)

-- ---- how a chain ends

abbrev EndsIn : List MadeRun → List Limits → CycleStatus → Type 0
EndsIn runs unused cycle.Ended = last_end runs ≡ run.Ended
EndsIn runs unused cycle.Spent = (last_end runs ≡ run.Spent) × (unused ≡ [])
EndsIn runs unused (cycle.Stopped why) = (last_end runs ≡ run.Stopped why) ⊎ ((why ≡ halt.Fault Memory) × (last_end runs ≡ run.Spent))

ends_in : (runs : List MadeRun) (unused : List Limits) (end : CycleStatus) → LastEnds runs unused end → EndsIn runs unused end
ends_in runs unused cycle.Ended h = h
ends_in runs unused cycle.Spent h = h
ends_in runs unused (cycle.Stopped why) (inl e) = inl e
ends_in runs unused (cycle.Stopped why) (inr b) = inr (b.memory, b.spent)

pub spent_not_ended : run.Spent ≡ run.Ended → ⊥
spent_not_ended e = cc

pub spent_not_stopped : (why : ReportStop) → run.Spent ≡ run.Stopped why → ⊥
spent_not_stopped why e = cc

abbrev found_by : List MadeRun → Bool
found_by runs = list_any (λ r. r.ran.found) runs

abbrev pub given : List MadeRun → List Limits → List Limits
given runs unused = map (λ r. r.limits) runs ++ unused

module _ (further : Further) (root : StorageRoot) (part : Part) where
  -- if the runs of a chain come from a place
  record Comes (s t : Store) (old new : Option (List ℕ)) (c : Cursor) (from : Option Place) (limits : List Limits) (runs : List MadeRun) (end : CycleStatus) : Type 0 where
    last : Option Place
    spent : ℕ
    files : ℕ
    ends : PartsEnd further root part s t old new from last limits spent files (found_by runs) (length runs) end
    cursor_is : last_cursor c runs ≡ moved c (length runs) spent files (cycle_state end last)

  -- after no runs
  none_spent : (s : Store) (old : Option (List ℕ)) (c : Cursor) (from : Option Place) (unused : List Limits) → s.tree ≡ root → c.state ≡ state_at from
      → is_empty (due_within further root part from) ≡ false → unused ≡ [] → Comes s s old old c from unused [] cycle.Spent
  none_spent s old c from unused over there some none = record {
    last = from;
    spent = 0;
    files = 0;
    ends = subst (λ ls. PartsEnd further root part s s old old from from ls 0 0 false 0 cycle.Spent) (sym none) (parts_none further root part s old from over some);
    cursor_is = moved_none c (state_at from) there;
  }

  none_begun : (s : Store) (old : Option (List ℕ)) (c : Cursor) (from : Option Place) (unused : List Limits) (why : ReportStop) → s.tree ≡ root → c.state ≡ state_at from
      → why ≡ halt.Fault Memory → Comes s s old old c from unused [] (cycle.Stopped why)
  none_begun s old c from unused why over there is = record {
    last = from;
    spent = 0;
    files = 0;
    ends = subst (λ w. PartsEnd further root part s s old old from from unused 0 0 false 0 (cycle.Stopped w)) (sym is) (parts_unbegun further root part s old from unused over);
    cursor_is = moved_none c (state_at from) there;
  }

  left_alone : (s t : Store) (old new : Option (List ℕ)) (c : Cursor) (from : Option Place) (limits : List Limits) (runs : List MadeRun) (end : CycleStatus)
      → (t ≡ s) × (new ≡ old) → Comes s s old old c from limits runs end → Comes s t old new c from limits runs end
  left_alone s t old new c from limits runs end same h =
      subst (λ u. Comes s u old new c from limits runs end) (sym same.0) (subst (λ out. Comes s s old out c from limits runs end) (sym same.1) h)

  -- one run, and then those that follow
  module _ (s t : Store) (old new : Option (List ℕ)) (c : Cursor) (from : Option Place) (r : MadeRun) (there : c.state ≡ state_at from)
      (did : RunsFromWithin r.call part c r.limits r.ran) (is_call : r.call ≡ call_of further root s r.call.after old r.call.new) where
    abbrev u : Store
    u = r.call.after

    abbrev mid : Option (List ℕ)
    mid = r.call.new

    now : RunsFromWithin (call_of further root s u old mid) part c r.limits r.ran
    now = subst (λ k. RunsFromWithin k part c r.limits r.ran) is_call did

    from_here : RunEndsWithin (call_of further root s u old mid) part from now.last r.limits r.ran.spent r.ran.files r.ran.found r.ran.end
    from_here = subst (λ p. RunEndsWithin (call_of further root s u old mid) part p now.last r.limits r.ran.spent r.ran.files r.ran.found r.ran.end) (ap place_in there ∙ place_there from) now.run

    reached_is : r.ran.cursor ≡ after_run c r.ran.spent r.ran.files (state_after r.ran.end now.last)
    reached_is = now.cursor_is ∙ ap (λ x. after_run x r.ran.spent r.ran.files (state_after r.ran.end now.last)) (ap (begun_in c) there ∙ begun_there c from)

    over_then : u.tree ≡ root
    over_then = run_over further root part s u old mid from now.last r.limits r.ran.spent r.ran.files r.ran.found r.ran.end from_here

    abbrev run_as : (end : RunStatus) → r.ran.end ≡ end → RunEndsWithin (call_of further root s u old mid) part from now.last r.limits r.ran.spent r.ran.files r.ran.found end
    run_as end e = subst (RunEndsWithin (call_of further root s u old mid) part from now.last r.limits r.ran.spent r.ran.files r.ran.found) e from_here

    reached_as : (end : RunStatus) → r.ran.end ≡ end → r.ran.cursor ≡ after_run c r.ran.spent r.ran.files (state_after end now.last)
    reached_as end e = reached_is ∙ ap (λ w. after_run c r.ran.spent r.ran.files (state_after w now.last)) e

    -- it left something
    module _ (e : r.ran.end ≡ run.Spent) where
      abbrev next : Place
      next = (run_as run.Spent e).0

      turn : Turn further root part s u old mid from now.last r.limits r.ran.spent r.ran.files r.ran.found (Some next)
      turn = turn_of further root part s u old mid from now.last r.limits r.ran.spent r.ran.files r.ran.found (Some next) (run_as run.Spent e).1

      there_then : r.ran.cursor.state ≡ state_at now.last
      there_then = ap (λ x. x.state) (reached_as run.Spent e)

      some_then : is_empty (due_within further root part now.last) ≡ false
      some_then = next_some further root part s u old mid from now.last r.limits r.ran.spent r.ran.files r.ran.found [] next turn

      then : (rest : List MadeRun) (ls : List Limits) (end : CycleStatus) → Comes u t mid new r.ran.cursor now.last ls rest end
          → Comes s t old new c from (r.limits ∷ ls) (r ∷ rest) end
      then rest ls end k = record {
        last = k.last;
        spent = r.ran.spent + k.spent;
        files = r.ran.files + k.files;
        ends = subst (λ n. PartsEnd further root part s t old new from k.last (r.limits ∷ ls) (r.ran.spent + k.spent) (r.ran.files + k.files) (r.ran.found || found_by rest) n end)
            (let n : 1 + length rest ≡ suc (length rest) = omega arith in n)
            (ends_then further root part s u old mid from now.last r.limits r.ran.spent r.ran.files r.ran.found ls next turn t new k.last k.spent k.files (found_by rest) (length rest) end k.ends);
        cursor_is = k.cursor_is ∙ ap (λ x. moved x (length rest) k.spent k.files (cycle_state end k.last)) (reached_as run.Spent e)
            ∙ moved_on c (length rest) r.ran.spent k.spent r.ran.files k.files (state_at now.last) (cycle_state end k.last);
      }

    -- it was the last
    module _ (unused : List Limits) (same : (t ≡ u) × (new ≡ mid)) where
      alone : (end : CycleStatus) (how : RunStatus) → r.ran.end ≡ how → cycle_state end now.last ≡ state_after how now.last
          → PartsEnd further root part s u old mid from now.last (r.limits ∷ unused) r.ran.spent r.ran.files r.ran.found 1 end → Comes s t old new c from (r.limits ∷ unused) (r ∷ []) end
      alone end how e f k = record {
        last = now.last;
        spent = r.ran.spent;
        files = r.ran.files;
        ends = subst (λ v. PartsEnd further root part s t old new from now.last (r.limits ∷ unused) r.ran.spent r.ran.files v 1 end) (sym (or_none r.ran.found))
            (subst (λ x. PartsEnd further root part s x old new from now.last (r.limits ∷ unused) r.ran.spent r.ran.files r.ran.found 1 end) (sym same.0)
            (subst (λ x. PartsEnd further root part s u old x from now.last (r.limits ∷ unused) r.ran.spent r.ran.files r.ran.found 1 end) (sym same.1) k));
        cursor_is = reached_as how e ∙ ap (after_run c r.ran.spent r.ran.files) (sym f);
      }

      ended_here : r.ran.end ≡ run.Ended → Comes s t old new c from (r.limits ∷ unused) (r ∷ []) cycle.Ended
      ended_here e = alone cycle.Ended run.Ended e refl (parts_ended further root part s u old mid from now.last r.limits r.ran.spent r.ran.files r.ran.found unused
          (turn_of further root part s u old mid from now.last r.limits r.ran.spent r.ran.files r.ran.found None (run_as run.Ended e)))

      stopped_here : (why : ReportStop) → r.ran.end ≡ run.Stopped why → Comes s t old new c from (r.limits ∷ unused) (r ∷ []) (cycle.Stopped why)
      stopped_here why e = alone (cycle.Stopped why) (run.Stopped why) e refl
          (parts_stopped further root part s u old mid from now.last r.limits r.ran.spent r.ran.files r.ran.found unused why (run_as (run.Stopped why) e))

      spent_here : r.ran.end ≡ run.Spent → unused ≡ [] → Comes s t old new c from (r.limits ∷ unused) (r ∷ []) cycle.Spent
      spent_here e none = then e [] unused cycle.Spent
          (left_alone u t mid new r.ran.cursor now.last unused [] cycle.Spent same (none_spent u mid r.ran.cursor now.last unused over_then (there_then e) (some_then e) none))

      unbegun_here : (why : ReportStop) → why ≡ halt.Fault Memory → r.ran.end ≡ run.Spent → Comes s t old new c from (r.limits ∷ unused) (r ∷ []) (cycle.Stopped why)
      unbegun_here why is e = then e [] unused (cycle.Stopped why)
          (left_alone u t mid new r.ran.cursor now.last unused [] (cycle.Stopped why) same (none_begun u mid r.ran.cursor now.last unused why over_then (there_then e) is))

      last_here : (end : CycleStatus) → EndsIn (r ∷ []) unused end → Comes s t old new c from (r.limits ∷ unused) (r ∷ []) end
      last_here cycle.Ended e = ended_here e
      last_here cycle.Spent e = spent_here e.0 e.1
      last_here (cycle.Stopped why) (inl e) = stopped_here why e
      last_here (cycle.Stopped why) (inr e) = unbegun_here why e.0 e.1

  -- the runs of a chain
  comes : (r : MadeRun) (rest : List MadeRun) (unused : List Limits) (end : CycleStatus) (s t : Store) (old new : Option (List ℕ)) (c : Cursor) (from : Option Place)
      → c.state ≡ state_at from → AreMade part c (r ∷ rest) → IsMadeOf (call_of further root s t old new) (calls_of (r ∷ rest)) → AreSpent (r ∷ rest) → EndsIn (r ∷ rest) unused end
      → Comes s t old new c from (given (r ∷ rest) unused) (r ∷ rest) end
  comes r [] unused end s t old new c from there chained made spent ends = last_here s t old new c from r there chained.0 made.0 unused made.1 end ends
  comes r (q ∷ rest) unused end s t old new c from there chained made spent ends =
      let last : Option Place = (now s t old new c from r there chained.0 made.0).last in
      then s t old new c from r there chained.0 made.0 spent.0 (q ∷ rest) (given (q ∷ rest) unused) end
      (comes q rest unused end r.call.after t r.call.new new r.ran.cursor last (there_then s t old new c from r there chained.0 made.0 spent.0) chained.1 made.1 spent.1 (ends_on end ends))
    where
      ends_on : (end : CycleStatus) → EndsIn (r ∷ q ∷ rest) unused end → EndsIn (q ∷ rest) unused end
      ends_on cycle.Ended h = h
      ends_on cycle.Spent h = h
      ends_on (cycle.Stopped why) h = h

-- ---- a cycle

-- a cycle of runs, by what its runs did together
module _ (further : Further) (root : StorageRoot) (part : Part) (s t : Store) (old new : Option (List ℕ)) (limits : List Limits) where
  cycles_to : (last : Option Place) (count spent files : ℕ) (finding : Bool) (end : CycleStatus) → 1 ≤ count → PartsEnd further root part s t old new None last limits spent files finding count end
      → CyclesToWithin (call_of further root s t old new) part limits (cycle_cursor further count spent files (cycle_state end last)) finding end
  cycles_to last count spent files finding cycle.Ended some k =
      record { last = last; cycle = cycles further root part s t old new last limits spent files finding count true k; cursor_is = refl }
  cycles_to last count spent files finding cycle.Spent some k =
      record { last = last; cycle = cycles further root part s t old new last limits spent files finding count false k; cursor_is = refl }
  cycles_to last count spent files finding (cycle.Stopped why) some k =
      record { last = last; cycle = cycle_stops further root part s t old new last limits spent files finding count why some k; cursor_is = refl }

  module _ (ran : CycleEnd) (over : s.tree ≡ root) where
    no_runs : (unused : List Limits) (end : CycleStatus) → limits ≡ unused → (t ≡ s) × (new ≡ old) → LastEnds [] unused end → ran.cursor ≡ (new_cursor further) → ran.found ≡ false
        → CyclesToWithin (call_of further root s t old new) part limits ran.cursor ran.found end
    no_runs unused cycle.Ended are same ends cursor found = absurd (spent_not_ended ends)
    no_runs unused (cycle.Stopped why) are same (inl e) cursor found = absurd (spent_not_stopped why e)
    no_runs unused (cycle.Stopped why) are same (inr b) cursor found = let some = b.made in absurd (omega (arith, some))
    no_runs unused cycle.Spent are same ends cursor found =
        subst (λ u. CyclesToWithin (call_of further root s u old new) part limits ran.cursor ran.found cycle.Spent) (sym same.0)
        (subst (λ out. CyclesToWithin (call_of further root s s old out) part limits ran.cursor ran.found cycle.Spent) (sym same.1)
        (subst (λ c. CyclesToWithin (call_of further root s s old old) part limits c ran.found cycle.Spent) (sym cursor)
        (subst (λ v. CyclesToWithin (call_of further root s s old old) part limits (new_cursor further) v cycle.Spent) (sym found)
        (record { last = None; cycle = cycles_none further root part s old limits (are ∙ ends.1) over; cursor_is = refl }))))

    some_runs : (r : MadeRun) (rest : List MadeRun) (unused : List Limits) → limits ≡ given (r ∷ rest) unused → AreMade part (new_cursor further) (r ∷ rest)
        → IsMadeOf (call_of further root s t old new) (calls_of (r ∷ rest)) → AreSpent (r ∷ rest) → LastEnds (r ∷ rest) unused ran.end
        → ran.cursor ≡ last_cursor (new_cursor further) (r ∷ rest) → ran.found ≡ found_by (r ∷ rest) → CyclesToWithin (call_of further root s t old new) part limits ran.cursor ran.found ran.end
    some_runs r rest unused are chained made spent ends cursor found =
        let k = comes further root part r rest unused ran.end s t old new (new_cursor further) None refl chained made spent (ends_in (r ∷ rest) unused ran.end ends) in
        let count : ℕ = length (r ∷ rest) in
        let parts = subst (λ ls. PartsEnd further root part s t old new None k.last ls k.spent k.files (found_by (r ∷ rest)) count ran.end) (sym are) k.ends in
        let reached : ran.cursor ≡ cycle_cursor further count k.spent k.files (cycle_state ran.end k.last) = cursor ∙ k.cursor_is ∙ moved_new further count k.spent k.files (cycle_state ran.end k.last) in
        subst (λ c. CyclesToWithin (call_of further root s t old new) part limits c ran.found ran.end) (sym reached)
        (subst (λ v. CyclesToWithin (call_of further root s t old new) part limits (cycle_cursor further count k.spent k.files (cycle_state ran.end k.last)) v ran.end) (sym found)
        (cycles_to k.last count k.spent k.files (found_by (r ∷ rest)) ran.end (omega arith) parts))

    by_runs : (runs : List MadeRun) (unused : List Limits) → limits ≡ given runs unused → AreMade part (new_cursor further) runs → IsMadeOf (call_of further root s t old new) (calls_of runs)
        → AreSpent runs → LastEnds runs unused ran.end → ran.cursor ≡ last_cursor (new_cursor further) runs → ran.found ≡ found_by runs
        → CyclesToWithin (call_of further root s t old new) part limits ran.cursor ran.found ran.end
    by_runs [] unused are chained made spent ends cursor found = no_runs unused ran.end are made ends cursor found
    by_runs (r ∷ rest) unused are chained made spent ends cursor found = some_runs r rest unused are chained made spent ends cursor found

pub together : (call : Call) (part : Part) (limits : List Limits) (ran : CycleEnd) → CycleOfRunsWithin call part limits ran → CyclesToWithin call part limits ran.cursor ran.found ran.end
together call part limits ran h =
    let a = apart call part limits ran h in
    by_runs call.further call.root part call.before call.after call.old call.new limits ran a.over a.runs a.unused a.limits_are a.chained a.made_of a.spent a.ends a.cursor_is a.found_is

-- its count is that of its cursor
pub counted : (call : Call) (part : Part) (limits : List Limits) (ran : CycleEnd) → CycleOfRunsWithin call part limits ran → ran.runs ≡ ran.cursor.runs
counted call part limits ran h = let a = apart call part limits ran h in a.count_is ∙ by a.unused a.runs a.chained a.made_of a.spent a.ends ∙ sym (ap (λ c. c.runs) a.cursor_is)
  where
    by : (unused : List Limits) (runs : List MadeRun) → AreMade part (new_cursor call.further) runs → IsMadeOf call (calls_of runs) → AreSpent runs → LastEnds runs unused ran.end → length runs ≡ (last_cursor (new_cursor call.further) runs).runs
    by unused [] chained made spent ends = refl
    by unused (r ∷ rest) chained made spent ends =
        let k = comes call.further call.root part r rest unused ran.end call.before call.after call.old call.new (new_cursor call.further) None refl chained made spent (ends_in (r ∷ rest) unused ran.end ends) in
        let e : (last_cursor (new_cursor call.further) (r ∷ rest)).runs ≡ 0 + length (r ∷ rest) = ap (λ c. c.runs) k.cursor_is in
        omega (arith, e)
