-- A chain of runs grows by one run.
use Rattle.std.proofs.Common.{◌≡◌, inl, inr, ℕ, ◌≤◌, ◌+◌, List, [], ◌∷◌, ◌++◌, refl, sym, ◌∙◌, ap, ap₂, subst, false, Bool, Option, map, length, length-append, append_assoc, arith}
use Rattle.std.proofs.{lemmas.List.Folds.{list_any-append}, lemmas.List.{map-append}}
use Rattle.std.specs.{Prelude.{◌||◌}, List.{AllByRecursion, list_any}}
use Rattle.ocfl_tree.specs.{Place.{Place}, StorageRoot.{StorageRoot}, Store.{Store}}
use Rattle.ocfl_rules.specs.{Parts.{Part}, Runs.{Limits}}
use Rattle.ocfl_cursor.specs.Cursor.{Cursor, new_cursor}
use Rattle.ocfl_item.specs.declared.fault.Fault.TheVariants.{Memory}
use Rattle.ocfl_report.specs.declared.further.Further.{Further}
use Rattle.ocfl_scrub.specs.declared.stop.ReportStop.TheVariants as halt
use Rattle.ocfl_scrub.specs.Types.{ReportStop}
use Rattle.ocfl_scrub.specs.{Call.{Call, call_of}, Running.{RunEndsWithin, RunsFromWithin}}
use Rattle.ocfl_scrub.specs.Chaining.{MadeRun, IsMadeOf, CycleOfRunsWithin}
use Rattle.ocfl_scrub.specs.declared.running.RunEnd.{RunEnd}
use Rattle.ocfl_scrub.specs.declared.running.RunStatus.{RunStatus}
use Rattle.ocfl_scrub.specs.declared.cycling.CycleEnd.{CycleEnd}
use Rattle.ocfl_scrub.specs.declared.cycling.CycleStatus.{CycleStatus}
use Rattle.ocfl_scrub.specs.declared.running.RunStatus.TheVariants as run
use Rattle.ocfl_scrub.specs.declared.cycling.CycleStatus.TheVariants as cycle
use Rattle.ocfl_scrub.proofs.AuditsJoined.{audits_over}
use Rattle.ocfl_scrub.proofs.ChainParts.{calls_of, AreMade, AreSpent, last_end, last_cursor, LastEnds, put_together}
use Rattle.ocfl_scrub.proofs.TakeLaws.{or_none}

-- ---- one run more

chained_more : (part : Part) (c : Cursor) (runs : List MadeRun) (r : MadeRun) → AreMade part c runs → RunsFromWithin r.call part (last_cursor c runs) r.limits r.ran
    → AreMade part c (runs ++ r ∷ [])
chained_more part c [] r h k = (k, tt)
chained_more part c (q ∷ runs) r h k = (h.0, chained_more part q.ran.cursor runs r h.1 k)

made_of_more : (further : Further) (root : StorageRoot) (s t u : Store) (old mid new : Option (List ℕ)) (calls : List Call) → IsMadeOf (call_of further root s t old mid) calls
    → IsMadeOf (call_of further root s u old new) (calls ++ call_of further root t u mid new ∷ [])
made_of_more further root s t u old mid new [] h = (ap₂ (λ x y. call_of further root x u y new) h.0 h.1, (refl, refl))
made_of_more further root s t u old mid new (k ∷ calls) h = (h.0, made_of_more further root k.after t u k.new mid new calls h.1)

abbrev pub AllSpent : List MadeRun → Type 0
AllSpent runs = AllByRecursion (λ (r : MadeRun). r.ran.end ≡ run.Spent) runs

all_more : (runs : List MadeRun) (r : MadeRun) → AllSpent runs → r.ran.end ≡ run.Spent → AllSpent (runs ++ r ∷ [])
all_more [] r h e = (e, tt)
all_more (q ∷ runs) r h e = (h.0, all_more runs r h.1 e)

spent_all : (runs : List MadeRun) → AllSpent runs → AreSpent runs
spent_all [] h = tt
spent_all (r ∷ []) h = tt
spent_all (r ∷ q ∷ runs) h = (h.0, spent_all (q ∷ runs) h.1)

spent_then : (runs : List MadeRun) (r : MadeRun) → AllSpent runs → AreSpent (runs ++ r ∷ [])
spent_then [] r h = tt
spent_then (q ∷ []) r h = (h.0, tt)
spent_then (q ∷ p ∷ runs) r h = (h.0, spent_then (p ∷ runs) r h.1)

end_more : (runs : List MadeRun) (r : MadeRun) → last_end (runs ++ r ∷ []) ≡ r.ran.end
end_more [] r = refl
end_more (q ∷ []) r = refl
end_more (q ∷ p ∷ runs) r = end_more (p ∷ runs) r

end_all : (runs : List MadeRun) → AllSpent runs → last_end runs ≡ run.Spent
end_all [] h = refl
end_all (r ∷ []) h = h.0
end_all (r ∷ q ∷ runs) h = end_all (q ∷ runs) h.1

cursor_more : (c : Cursor) (runs : List MadeRun) (r : MadeRun) → last_cursor c (runs ++ r ∷ []) ≡ r.ran.cursor
cursor_more c [] r = refl
cursor_more c (q ∷ runs) r = cursor_more q.ran.cursor runs r

-- ---- what one run leaves

pub run_over : (further : Further) (root : StorageRoot) (part : Part) (s t : Store) (old new : Option (List ℕ)) (from last : Option Place) (l : Limits) (spent files : ℕ)
    (finding : Bool) (end : RunStatus) → RunEndsWithin (call_of further root s t old new) part from last l spent files finding end → t.tree ≡ root
run_over further root part s t old new from last l spent files finding run.Ended h = audits_over h.looks.audits
run_over further root part s t old new from last l spent files finding run.Spent h = audits_over h.1.looks.audits
run_over further root part s t old new from last l spent files finding (run.Stopped why) h = h.looks.fails.did.tree ∙ h.looks.fails.over
run_over further root part s t old new from last l spent files finding run.Worn h = absurd h

-- the cursor that is handed on has the option of the cycle
pub begun_option : (further : Further) (begun c : Cursor) → begun ≡ c → c.further ≡ further → begun.further ≡ further
begun_option further begun c e f = ap (λ x. x.further) e ∙ f

-- so a run from it has it too
pub run_there : (further : Further) (root : StorageRoot) (option : Further) (t u : Store) (mid new : Option (List ℕ)) (part : Part) (now : Cursor) (l : Limits) (made : RunEnd)
    → option ≡ further → RunsFromWithin (call_of option root t u mid new) part now l made → RunsFromWithin (call_of further root t u mid new) part now l made
run_there further root option t u mid new part now l made e h = subst (λ o. RunsFromWithin (call_of o root t u mid new) part now l made) e h

-- ---- the runs that a cycle has made

-- some runs of a cycle's limits, and the limits that they leave
pub record Chain (further : Further) (root : StorageRoot) (part : Part) (s t : Store) (old mid : Option (List ℕ)) (limits all : List Limits) (c : Cursor) (finding : Bool)
    (count : ℕ) : Type 0 where
  pub runs : List MadeRun
  pub chained : AreMade part (new_cursor further) runs
  pub made_of : IsMadeOf (call_of further root s t old mid) (calls_of runs)
  pub limits_are : all ≡ map (λ r. r.limits) runs ++ limits
  pub count_is : count ≡ length runs
  pub cursor_is : c ≡ last_cursor (new_cursor further) runs
  pub found_is : finding ≡ list_any (λ r. r.ran.found) runs

-- each of which left something
pub record ChainSoFar (further : Further) (root : StorageRoot) (part : Part) (s t : Store) (old mid : Option (List ℕ)) (limits all : List Limits) (c : Cursor) (finding : Bool)
    (count : ℕ) : Type 0 where
  pub began : s.tree ≡ root
  pub over : t.tree ≡ root
  pub chain : Chain further root part s t old mid limits all c finding count
  pub spent : AllSpent chain.runs

pub chain_begins : (further : Further) (root : StorageRoot) (part : Part) (s : Store) (old : Option (List ℕ)) (all : List Limits) (c : Cursor) (count : ℕ) → c ≡ (new_cursor further) → count ≡ 0 → s.tree ≡ root
    → ChainSoFar further root part s s old old all all c false count
chain_begins further root part s old all c count is none over = record {
  began = over;
  over = over;
  chain = record { runs = []; chained = tt; made_of = (refl, refl); limits_are = refl; count_is = none; cursor_is = is; found_is = refl };
  spent = tt;
}

module _ (further : Further) (root : StorageRoot) (part : Part) (s t : Store) (old mid : Option (List ℕ)) (limits all : List Limits) (c : Cursor) (finding : Bool) (count : ℕ) where
  -- such runs are a cycle
  cycle_is : (k : Chain further root part s t old mid limits all c finding count) (ran : CycleEnd) (end : CycleStatus) → ran.runs ≡ count → ran.cursor ≡ c → ran.found ≡ finding → ran.end ≡ end
      → s.tree ≡ root → AreSpent k.runs → LastEnds k.runs limits end → CycleOfRunsWithin (call_of further root s t old mid) part all ran
  cycle_is k ran end counted cursor found end_is over spent ends = put_together (call_of further root s t old mid) part all ran (record {
    over = over;
    runs = k.runs;
    chained = k.chained;
    made_of = k.made_of;
    unused = limits;
    limits_are = k.limits_are;
    spent = spent;
    ends = subst (LastEnds k.runs limits) (sym end_is) ends;
    count_is = counted ∙ k.count_is;
    cursor_is = cursor ∙ k.cursor_is;
    found_is = found ∙ k.found_is;
  })

module _ (further : Further) (root : StorageRoot) (part : Part) (s t : Store) (old mid : Option (List ℕ)) (limits all : List Limits) (c : Cursor) (finding : Bool) (count : ℕ)
    (g : ChainSoFar further root part s t old mid limits all c finding count) where
  -- the limits ran out
  pub cycle_out : (ran : CycleEnd) → ran.runs ≡ count → ran.cursor ≡ c → ran.found ≡ finding → ran.end ≡ cycle.Spent → limits ≡ [] → CycleOfRunsWithin (call_of further root s t old mid) part all ran
  cycle_out ran counted cursor found end_is none =
      cycle_is further root part s t old mid limits all c finding count g.chain ran cycle.Spent counted cursor found end_is g.began (spent_all g.chain.runs g.spent) (end_all g.chain.runs g.spent, none)

  -- there was no memory for the text of a run's cursor
  pub cycle_unbegun : (ran : CycleEnd) → ran.runs ≡ count → ran.cursor ≡ c → ran.found ≡ finding → ran.end ≡ cycle.Stopped (halt.Fault Memory) → 1 ≤ count → 1 ≤ length limits
      → CycleOfRunsWithin (call_of further root s t old mid) part all ran
  cycle_unbegun ran counted cursor found end_is some more = cycle_is further root part s t old mid limits all c finding count g.chain ran (cycle.Stopped (halt.Fault Memory))
      counted cursor found end_is g.began (spent_all g.chain.runs g.spent) (inr (record {
        memory = refl;
        made = let n = g.chain.count_is in omega (arith, n, some);
        spent = end_all g.chain.runs g.spent;
        further = more;
      }))

  -- one more run
  module _ (u : Store) (new : Option (List ℕ)) (l : Limits) (ls : List Limits) (now : Cursor) (made : RunEnd) (either : Bool)
      (is_left : limits ≡ l ∷ ls) (is_now : now ≡ c) (runs_on : t.tree ≡ root → RunsFromWithin (call_of further root t u mid new) part now l made) (is_either : either ≡ (finding || made.found)) where
    abbrev this : MadeRun
    this = record { call = call_of further root t u mid new; limits = l; ran = made }

    did : RunsFromWithin (call_of further root t u mid new) part now l made
    did = runs_on g.over

    abbrev grown : Chain further root part s u old new ls all made.cursor either (count + 1)
    grown =
        let k = g.chain in
        record {
          runs = k.runs ++ this ∷ [];
          chained = chained_more part (new_cursor further) k.runs this k.chained (subst (λ x. RunsFromWithin (call_of further root t u mid new) part x l made) (is_now ∙ k.cursor_is) did);
          made_of = subst (IsMadeOf (call_of further root s u old new)) (sym (map-append (λ r. r.call) k.runs (this ∷ []))) (made_of_more further root s t u old mid new (calls_of k.runs) k.made_of);
          limits_are = k.limits_are ∙ ap (λ xs. map (λ r. r.limits) k.runs ++ xs) is_left ∙ sym (append_assoc (map (λ r. r.limits) k.runs) (l ∷ []) ls)
              ∙ ap (λ xs. xs ++ ls) (sym (map-append (λ r. r.limits) k.runs (this ∷ [])));
          count_is = let n = k.count_is in let m = length-append k.runs (this ∷ []) in omega (arith, n, m);
          cursor_is = sym (cursor_more (new_cursor further) k.runs this);
          found_is = is_either ∙ ap (λ v. v || made.found) k.found_is ∙ ap (λ v. list_any (λ r. r.ran.found) k.runs || v) (sym (or_none made.found))
              ∙ sym (list_any-append (λ r. r.ran.found) k.runs (this ∷ []));
        }

    pub chain_goes_on : made.end ≡ run.Spent → ChainSoFar further root part s u old new ls all made.cursor either (count + 1)
    chain_goes_on e = record {
      began = g.began;
      over = run_over further root part t u mid new _ _ l made.spent made.files made.found made.end did.run;
      chain = grown;
      spent = all_more g.chain.runs this g.spent e;
    }

    pub cycle_ended : (ran : CycleEnd) → ran.runs ≡ count + 1 → ran.cursor ≡ made.cursor → ran.found ≡ either → ran.end ≡ cycle.Ended → made.end ≡ run.Ended
        → CycleOfRunsWithin (call_of further root s u old new) part all ran
    cycle_ended ran counted cursor found end_is e =
        cycle_is further root part s u old new ls all made.cursor either (count + 1) grown ran cycle.Ended
        counted cursor found end_is g.began (spent_then g.chain.runs this g.spent) (end_more g.chain.runs this ∙ e)

    pub cycle_stopped : (why : ReportStop) (ran : CycleEnd) → ran.runs ≡ count + 1 → ran.cursor ≡ made.cursor → ran.found ≡ either → ran.end ≡ cycle.Stopped why → made.end ≡ run.Stopped why
        → CycleOfRunsWithin (call_of further root s u old new) part all ran
    cycle_stopped why ran counted cursor found end_is e =
        cycle_is further root part s u old new ls all made.cursor either (count + 1) grown ran (cycle.Stopped why)
        counted cursor found end_is g.began (spent_then g.chain.runs this g.spent) (inl (end_more g.chain.runs this ∙ e))
