-- A cycle's chain of runs taken apart: its runs one by one, the calls that they were, where they ended.
use Rattle.std.proofs.Common.{◌≡◌, List, [], ◌∷◌, ◌++◌, refl, map, length, sym, subst}
use Rattle.std.specs.{Prelude.{⊤}, List.{list_any}}
use Rattle.ocfl_rules.specs.{Parts.{Part}, Runs.{Limits}}
use Rattle.ocfl_cursor.specs.Cursor.{Cursor, new_cursor}
use Rattle.ocfl_scrub.specs.Call.{Call, call_of}
use Rattle.ocfl_scrub.specs.Chaining.{MadeRun, AreChained, IsMadeOf, ChainEnds, CycleOfRunsWithin}
use Rattle.ocfl_scrub.specs.{Running.{RunsFromWithin}, declared.running.RunStatus.{RunStatus}}
use Rattle.ocfl_scrub.specs.declared.cycling.CycleEnd.{CycleEnd}
use Rattle.ocfl_scrub.specs.declared.cycling.CycleStatus.{CycleStatus}
use Rattle.ocfl_scrub.specs.declared.running.RunStatus.TheVariants as run

abbrev pub calls_of : List MadeRun → List Call
calls_of runs = map (λ r. r.call) runs

-- each did what a run does from its cursor
abbrev pub AreMade : Part → Cursor → List MadeRun → Type 0
AreMade part c [] = ⊤
AreMade part c (r ∷ runs) = RunsFromWithin r.call part c r.limits r.ran × AreMade part r.ran.cursor runs

-- each but the last left something
abbrev pub AreSpent : List MadeRun → Type 0
AreSpent [] = ⊤
AreSpent (r ∷ []) = ⊤
AreSpent (r ∷ q ∷ runs) = (r.ran.end ≡ run.Spent) × AreSpent (q ∷ runs)

abbrev pub last_end : List MadeRun → RunStatus
last_end [] = run.Spent
last_end (r ∷ []) = r.ran.end
last_end (r ∷ q ∷ runs) = last_end (q ∷ runs)

abbrev pub last_cursor : Cursor → List MadeRun → Cursor
last_cursor c [] = c
last_cursor c (r ∷ runs) = last_cursor r.ran.cursor runs

abbrev pub LastEnds : List MadeRun → List Limits → CycleStatus → Type 0
LastEnds runs unused end = ChainEnds runs (last_end runs) unused end

pub record Apart (call : Call) (part : Part) (limits : List Limits) (ran : CycleEnd) : Type 0 where
  pub over : call.before.tree ≡ call.root
  pub runs : List MadeRun
  pub chained : AreMade part (new_cursor call.further) runs
  pub made_of : IsMadeOf call (calls_of runs)
  pub unused : List Limits
  pub limits_are : limits ≡ map (λ r. r.limits) runs ++ unused
  pub spent : AreSpent runs
  pub ends : LastEnds runs unused ran.end
  pub count_is : ran.runs ≡ length runs
  pub cursor_is : ran.cursor ≡ last_cursor (new_cursor call.further) runs
  pub found_is : ran.found ≡ list_any (λ r. r.ran.found) runs

-- ---- the runs

-- each began if the limits of the one before it had left something, and what is left at last
abbrev SpentFrom : RunStatus → List MadeRun → Type 0
SpentFrom so [] = ⊤
SpentFrom so (r ∷ runs) = (so ≡ run.Spent) × SpentFrom r.ran.end runs

abbrev end_from : RunStatus → List MadeRun → RunStatus
end_from so [] = so
end_from so (r ∷ runs) = end_from r.ran.end runs

chain_apart : (part : Part) (call : Call) (c to : Cursor) (so end : RunStatus) (runs : List MadeRun) → AreChained part call c so runs to end
    → AreMade part c runs × (IsMadeOf call (calls_of runs) × (to ≡ last_cursor c runs))
chain_apart part call c to so end [] h = (tt, ((h.0, h.1.0), h.1.1.0))
chain_apart part call c to so end (r ∷ runs) h =
    let k = chain_apart part (call_of call.further call.root r.call.after call.after r.call.new call.new) r.ran.cursor to r.ran.end end runs h.1.1.1 in ((h.1.1.0, k.0), ((h.1.0, k.1.0), k.1.1))

ends_apart : (part : Part) (call : Call) (c to : Cursor) (so end : RunStatus) (r : MadeRun) (runs : List MadeRun) → AreChained part call c so (r ∷ runs) to end
    → AreSpent (r ∷ runs) × (last_end (r ∷ runs) ≡ end)
ends_apart part call c to so end r [] h = (tt, h.1.1.1.1.1.1)
ends_apart part call c to so end r (q ∷ runs) h =
    let k = ends_apart part (call_of call.further call.root r.call.after call.after r.call.new call.new) r.ran.cursor to r.ran.end end q runs h.1.1.1 in ((h.1.1.1.0, k.0), k.1)

all_apart : (part : Part) (call : Call) (c to : Cursor) (end : RunStatus) (runs : List MadeRun) → AreChained part call c run.Spent runs to end
    → AreSpent runs × (last_end runs ≡ end)
all_apart part call c to end [] h = (tt, h.1.1.1)
all_apart part call c to end (r ∷ runs) h = ends_apart part call c to run.Spent end r runs h

chain_of : (part : Part) (call : Call) (c to : Cursor) (so : RunStatus) (runs : List MadeRun) → AreMade part c runs → IsMadeOf call (calls_of runs) → to ≡ last_cursor c runs
    → SpentFrom so runs → AreChained part call c so runs to (end_from so runs)
chain_of part call c to so [] h m e s = (m.0, (m.1, (e, refl)))
chain_of part call c to so (r ∷ runs) h m e s =
    (s.0, (m.0, (h.0, chain_of part (call_of call.further call.root r.call.after call.after r.call.new call.new) r.ran.cursor to r.ran.end runs h.1 m.1 e s.1)))

spent_then : (r : MadeRun) (runs : List MadeRun) → AreSpent (r ∷ runs) → SpentFrom r.ran.end runs
spent_then r [] h = tt
spent_then r (q ∷ runs) h = (h.0, spent_then q runs h.1)

spent_from : (runs : List MadeRun) → AreSpent runs → SpentFrom run.Spent runs
spent_from [] h = tt
spent_from (r ∷ runs) h = (refl, spent_then r runs h)

end_then : (r : MadeRun) (runs : List MadeRun) → end_from r.ran.end runs ≡ last_end (r ∷ runs)
end_then r [] = refl
end_then r (q ∷ runs) = end_then q runs

end_is : (runs : List MadeRun) → end_from run.Spent runs ≡ last_end runs
end_is [] = refl
end_is (r ∷ runs) = end_then r runs

-- ---- a cycle

pub apart : (call : Call) (part : Part) (limits : List Limits) (ran : CycleEnd) → CycleOfRunsWithin call part limits ran → Apart call part limits ran
apart call part limits ran h =
    let k = chain_apart part call (new_cursor call.further) ran.cursor run.Spent h.end h.runs h.chained in
    let e = all_apart part call (new_cursor call.further) ran.cursor h.end h.runs h.chained in
    record {
      over = h.over;
      runs = h.runs;
      chained = k.0;
      made_of = k.1.0;
      unused = h.unused;
      limits_are = h.limits_are;
      spent = e.0;
      ends = subst (λ x. ChainEnds h.runs x h.unused ran.end) (sym e.1) h.ends;
      count_is = h.count_is;
      cursor_is = k.1.1;
      found_is = h.found_is;
    }

pub put_together : (call : Call) (part : Part) (limits : List Limits) (ran : CycleEnd) → Apart call part limits ran → CycleOfRunsWithin call part limits ran
put_together call part limits ran a = record {
  over = a.over;
  runs = a.runs;
  end = end_from run.Spent a.runs;
  chained = chain_of part call (new_cursor call.further) ran.cursor run.Spent a.runs a.chained a.made_of a.cursor_is (spent_from a.runs a.spent);
  unused = a.unused;
  limits_are = a.limits_are;
  ends = subst (λ x. ChainEnds a.runs x a.unused ran.end) (sym (end_is a.runs)) a.ends;
  count_is = a.count_is;
  found_is = a.found_is;
}
