-- Worked cases: the cursor that a command reads, shows and hands back.
use Rattle.std.proofs.Common.{◌≡◌, refl, sym, ◌∙◌, ap, subst, inl, inr, arith, [], codes, true, false, Some, None, length}
use Rattle.std.specs.{Prelude.{String}, declared.alloc.Global.{Global}}
use Rattle.std.proofs.lemmas.List.{length-take-le}
use Rattle.ocfl_tree.specs.Place.{Text}
use Rattle.ocfl_report.specs.declared.further.Further.TheVariants.{Nothing, Inventories}
use Rattle.ocfl_rules.specs.Runs.{of_budget}
use Rattle.ocfl_cursor.specs.Cursor.{Cursor, IsCursor, ended, new_cursor, cursor_text, cursor_lines}
use Rattle.ocfl_cursor.specs.Shown.{AreShown, IsShownFrom}
use Rattle.ocfl_cursor.specs.declared.refused.Refused.TheVariants as refused
use Rattle.ocfl_cursor.specs.declared.limits.Limits.{Limits as MadeLimits}
use Rattle.ocfl_cursor.proofs.OnLiterals.{cursor_on_literals}
use Rattle.ocfl_cursor.proofs.CursorTexts.{text_determines}
use Rattle.ocfl_deed.specs.declared.deed.Deed.TheVariants as deed
use Rattle.ocfl_scrub.specs.declared.running.RunStatus.TheVariants as run
use Rattle.ocfl_scrub.specs.declared.note.Note.TheVariants as note
use Rattle.ocfl_scrub.specs.Performing.{AreStored, IsFirst, BeginsWith, IsOfOther, RefusesRightly, IsKept, IsKeptBy, HandedBack, IsWithoutFile, RefusesPath, Shows, ShowsPart, ShowsWith, RunWorn}

abbrev first : Cursor
first = new_cursor Nothing

-- ---- the cursor that is read

-- without a reader it is a new one
first_cursors : IsFirst Nothing None first × (IsFirst Nothing None (record first { runs = 1 }) → ⊥)
first_cursors = (refl, λ h. let m : 1 ≡ 0 = ap (λ c. c.runs) h in omega (arith, m))

-- a run that checks inventories too begins with no cursor of one that does not
begins_with_its_option : BeginsWith Nothing None first × (BeginsWith Inventories (Some None) first → ⊥)
begins_with_its_option = ((refl, refl), λ h. let m : Nothing ≡ Inventories = h.0 in cc)

-- and refuses it as one of the other option, but no cursor of its own
is_of_the_other_option : IsOfOther Nothing (Some None) Inventories × (IsOfOther Nothing (Some None) Nothing → ⊥)
is_of_the_other_option = (((λ e. let m : Inventories ≡ Nothing = e in cc), tt), λ h. h.0 refl)

-- a reader's cursor is refused, and not one that nobody gave
refused_without_a_reader : RefusesRightly deed.Show None (note.CursorRefused refused.Damaged) → ⊥
refused_without_a_reader h = h

-- a run without a cursor file does not say that the file failed
said_without_a_file : (limits : MadeLimits) → IsWithoutFile None (deed.Run Nothing limits) note.CursorFileFailed → ⊥
said_without_a_file limits h = h refl

-- ---- the cursor that is handed back

-- a run hands one back after a stop at a place, and no other command does
kept_after_a_stop : (IsKept (note.StoppedAt []) None → ⊥) × IsKeptBy (deed.Audit Nothing) (note.StoppedAt []) None × IsKeptBy deed.Show note.OutputFailed None
kept_after_a_stop = ((λ h. let m : false ≡ true = h in cc), refl, refl)

-- a run that found no item, and ended: its cursor is at the end, after one run
abbrev last : Cursor
last = record first { runs = 1; state = ended }

last_is_a_cursor : IsCursor last
last_is_a_cursor = search arith

handed_back_after_a_run : HandedBack (IsFirst Nothing None) cursor_lines (of_budget 4) 0 (note.RunMade 1 1 0 true) (codes "cycle 1\nruns 1\nspent 0\nfiles 0\nended\n")
unfolding cursor_on_literals
handed_back_after_a_run = record {
  from = first;
  begins = refl;
  ran = record { cursor = last; spent = 0; files = 0; found = false; end = run.Ended };
  paid = record { costs = []; paid = tt; spent_is = refl; files_is = refl };
  last = None;
  cursor_is = refl;
  keeps = last_is_a_cursor;
  handed_is = refl;
  says = (refl, refl);
}

-- at the end of the last cycle that can be counted the cursor is worn
abbrev worn : Cursor
worn = record first { cycle = 18446744073709551615; runs = 1; state = ended }

run_with_a_worn_cursor : RunWorn (λ c. c ≡ worn) 3 note.CursorWorn
run_with_a_worn_cursor = record { from = worn; begins = refl; worn = refl; status_is = refl; says = refl }

-- ---- paths

-- a path may not be read because memory ran out, even if it is none
path_without_memory : (path : String Global) → RefusesPath (deed.Check Nothing path) 3 note.OutOfMemory
path_without_memory path = ((λ bad. inr (refl, refl)), λ e. absurd (let two : note.OutOfMemory ≡ note.BadPath = e in cc))

-- ---- what is shown

first_is_a_cursor : IsCursor first
first_is_a_cursor = search arith

first_is_shown : IsShownFrom (Some (cursor_text first)) (cursor_lines first)
first_is_shown = record {
  bytes = cursor_text first;
  are = inl (record { cursor = first; is_text = record { keeps = first_is_a_cursor; is = inl refl }; lines_are = refl });
  stored = refl;
}

shows_a_new_cursor : Shows (Some (Some (cursor_text first))) (Some []) (Some (cursor_lines first))
shows_a_new_cursor = record { lines = cursor_lines first; stored = first_is_shown; wrote = refl }

-- a cursor's text determines its lines
stored_lines_are_its_own : (lines : Text) → AreStored (Some (Some (cursor_text first))) lines → lines ≡ cursor_lines first
stored_lines_are_its_own lines h = by (subst (λ b. AreShown b lines) (sym h.stored) h.are)
  where
    by : AreShown (cursor_text first) lines → lines ≡ cursor_lines first
    by (inl k) = k.lines_are ∙ ap cursor_lines (text_determines (cursor_text first) k.cursor first k.is_text (record { keeps = first_is_a_cursor; is = inl refl }))
    by (inr k) = absurd (let m : false ≡ true = k.is_read in cc)

-- to end without a note all its lines have to go out
nothing_shown : ShowsWith (Some (Some (cursor_text first))) note.Nothing (Some []) (Some []) → ⊥
nothing_shown h = let m : [] ≡ cursor_lines first = h.wrote ∙ stored_lines_are_its_own h.lines h.stored in cc

-- an output that failed has not taken all lines
some_lines_are_not_shown : ShowsPart (Some (Some (cursor_text first))) (Some []) (Some (cursor_lines first)) → ⊥
some_lines_are_not_shown h =
    let n : length h.lines ≡ length (cursor_lines first) = ap length (stored_lines_are_its_own h.lines h.stored) in
    let p = h.proper in
    let m : length (cursor_lines first) ≡ h.gone = ap length h.wrote ∙ length-take-le h.gone h.lines (omega (arith, p)) in
    omega (arith, n, m, p)
