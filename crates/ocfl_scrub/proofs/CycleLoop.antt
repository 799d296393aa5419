-- The loop of a cycle as the code says it.
use Rattle.std.proofs.Common.{◌≡◌, ◌≢◌, ◌<◌, ◌≤◌, ℕ, ◌+◌, List, [], ◌∷◌, refl, sym, ◌∙◌, ap, subst, Bool, Some, None, Option, map, drop, length, length-drop, get_or, arith}
use Rattle.std.proofs.{lemmas.List.{length-map}, Math.ListN.{drop_of_length-le}}
use Rattle.ocfl_tree.specs.Place.{Place}
use Rattle.ocfl_tree.proofs.Lists.{drop_item}
use Rattle.ocfl_report.specs.declared.further.Further.{Further}
use Rattle.ocfl_cursor.specs.Cursor.{State, start, behind, ended, Cursor, new_cursor}
use Rattle.ocfl_cursor.specs.{Moves.{after_run}, declared.limits.Limits.{Limits as MadeLimits}}
use Rattle.ocfl_scrub.specs.declared.stop.ReportStop.TheVariants.{Output}
use Rattle.ocfl_scrub.specs.Types.{ReportStop}
use Rattle.ocfl_scrub.specs.{Taking.{WritesLines}, Together.{state_at}}
use Rattle.ocfl_scrub.specs.Running.{limits_of, state_after, begun_in, begun}
use Rattle.ocfl_scrub.specs.declared.running.RunStatus.{RunStatus}
use Rattle.ocfl_scrub.specs.declared.cycling.CycleStatus.{CycleStatus}
use Rattle.ocfl_scrub.specs.declared.running.RunStatus.TheVariants as run
use Rattle.ocfl_scrub.specs.declared.cycling.CycleStatus.TheVariants as cycle

-- ---- limits

pub limits_next : (xs : List MadeLimits) (i : ℕ) (x : MadeLimits) → i < length xs → x ≡ get_or xs i x → map limits_of (drop i xs) ≡ limits_of x ∷ map limits_of (drop (i + 1) xs)
limits_next xs i x fits is = ap (map limits_of) (drop_item xs i x fits is)

pub limits_out : (xs : List MadeLimits) (i : ℕ) → length xs ≤ i → map limits_of (drop i xs) ≡ []
limits_out xs i out = ap (map limits_of) (drop_of_length-le xs out)

pub limits_some : (xs : List MadeLimits) (i : ℕ) → i < length xs → 1 ≤ length (map limits_of (drop i xs))
limits_some xs i fits = let m = length-map (drop i xs) limits_of in let n = length-drop i xs in omega (arith, m, n, fits)

-- ---- how a run ended

pub ended_not_worn : (end : RunStatus) → end ≡ run.Ended → end ≢ run.Worn
ended_not_worn end e f = cc

pub spent_not_worn : (end : RunStatus) → end ≡ run.Spent → end ≢ run.Worn
spent_not_worn end e f = cc

pub stopped_not_worn : (end : RunStatus) (why : ReportStop) → end ≡ run.Stopped why → end ≢ run.Worn
stopped_not_worn end why e f = cc

pub ended_wrote : (end : RunStatus) → end ≡ run.Ended → end ≢ run.Stopped Output
ended_wrote end e f = cc

pub spent_wrote : (end : RunStatus) → end ≡ run.Spent → end ≢ run.Stopped Output
spent_wrote end e f = cc

pub stopped_wrote : (end : RunStatus) (why : ReportStop) (last_end : CycleStatus) → end ≡ run.Stopped why → last_end ≡ cycle.Stopped why → last_end ≢ cycle.Stopped Output → end ≢ run.Stopped Output
stopped_wrote end why last_end e f other g = let same : why ≡ Output = cc in other (f ∙ ap cycle.Stopped same)

-- ---- cursors

pub new_unended : (further : Further) (c : Cursor) → c ≡ new_cursor further → c.state ≢ ended
new_unended further c e f = let two : start ≡ ended = sym (ap (λ x. x.state) e) ∙ f in cc

begun_same : (c : Cursor) (s : State) → s ≢ ended → begun_in c s ≡ c
begun_same c start h = refl
begun_same c (behind p) h = refl
begun_same c ended h = absurd (h refl)

state_unended : (last : Option Place) → state_at last ≢ ended
state_unended None e = cc
state_unended (Some p) e = cc

-- one run later, on every store
module _ (c now reached : Cursor) (cost opened : ℕ) (end : RunStatus) (last : Option Place) (is_now : now ≡ c) (unended : c.state ≢ ended)
    (is : reached ≡ after_run (begun now) cost opened (state_after end last)) where
  reached_is : reached ≡ after_run c cost opened (state_after end last)
  reached_is = is ∙ ap (λ x. after_run (begun x) cost opened (state_after end last)) is_now ∙ ap (λ x. after_run x cost opened (state_after end last)) (begun_same c c.state unended)

  pub one_run_more : (n : ℕ) → c.runs ≡ n → reached.runs ≡ n + 1
  one_run_more n e = ap (λ x. x.runs) reached_is ∙ ap (λ m. m + 1) e

  pub same_cycle : c.cycle ≡ 1 → reached.cycle ≡ 1
  same_cycle e = ap (λ x. x.cycle) reached_is ∙ e

  pub same_option : (further : Further) → c.further ≡ further → reached.further ≡ further
  same_option further e = ap (λ x. x.further) reached_is ∙ e

  pub spent_unended : end ≡ run.Spent → reached.state ≢ ended
  spent_unended e f = state_unended last (sym (ap (λ x. x.state) reached_is ∙ ap (λ w. state_after w last) e) ∙ f)

-- ---- ends

pub lines_said : (old new : Option (List ℕ)) (finding reported : Bool) → reported ≡ finding → WritesLines old new finding → WritesLines old new reported
lines_said old new finding reported e h = subst (WritesLines old new) (sym e) h
