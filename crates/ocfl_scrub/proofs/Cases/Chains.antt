-- Worked cases: chains of runs.
use Rattle.std.proofs.Common.{◌≡◌, refl, ap, arith, [], ◌∷◌, None}
use Rattle.ocfl_tree.specs.Store.{empty_store}
use Rattle.ocfl_report.specs.declared.further.Further.TheVariants.{Nothing}
use Rattle.ocfl_rules.specs.Parts.{whole}
use Rattle.ocfl_cursor.specs.Cursor.{Cursor, new_cursor}
use Rattle.ocfl_scrub.specs.Call.{Call, call_of}
use Rattle.ocfl_scrub.specs.Chaining.{AreChained, MadeRun}
use Rattle.ocfl_scrub.specs.Types.{RunStatus}
use Rattle.ocfl_scrub.specs.declared.running.RunStatus.TheVariants as run

abbrev first : Cursor
first = new_cursor Nothing

-- the cursor of a run that took nothing
abbrev second : Cursor
second = record first { runs = 1 }

-- a call that did nothing
abbrev idle : Call
idle = call_of Nothing [] empty_store empty_store None None

-- ---- without a run

-- all is left as it was
no_runs : AreChained whole idle first run.Spent [] first run.Spent
no_runs = (refl, (refl, (refl, refl)))

no_runs_leave_the_cursor : AreChained whole idle first run.Spent [] second run.Spent → ⊥
no_runs_leave_the_cursor h = let m : 1 ≡ 0 = ap (λ c. c.runs) h.1.1.0 in omega (arith, m)

no_runs_leave_the_end : AreChained whole idle first run.Spent [] first run.Ended → ⊥
no_runs_leave_the_end h = let m : run.Spent ≡ run.Ended = h.1.1.1 in cc

-- ---- with one run

-- it begins with the store as the call does
one_run_begins_with_the_call : (call : Call) (r : MadeRun) (to : Cursor) (end : RunStatus) → AreChained whole call first run.Spent (r ∷ []) to end → r.call.before ≡ call.before
one_run_begins_with_the_call call r to end h = ap (λ k. k.before) h.1.0

-- its cursor is left, and not that with which it began
one_run_leaves_its_cursor : (call : Call) (r : MadeRun) (to : Cursor) (end : RunStatus) → AreChained whole call first run.Spent (r ∷ []) to end → to ≡ r.ran.cursor
one_run_leaves_its_cursor call r to end h = h.1.1.1.1.1.0

-- none comes after the end
no_run_after_the_end : (call : Call) (r : MadeRun) (to : Cursor) (end : RunStatus) → AreChained whole call first run.Ended (r ∷ []) to end → ⊥
no_run_after_the_end call r to end h = let m : run.Ended ≡ run.Spent = h.0 in cc
