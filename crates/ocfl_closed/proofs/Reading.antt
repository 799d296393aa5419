-- Which checkpoint is read.
use Rattle.std.proofs.Common.{◌≡◌, Option, Some, None, Result, Ok, Err, IfOk, Vec, Global, ℕ, true, refl, sym, ap, subst, ◌∙◌}
use Rattle.ocfl_tree.specs.Place.{Text}
use Rattle.ocfl_state.specs.Checkpoint.{Checkpoint}
use Rattle.ocfl_state.proofs.CheckpointTexts.{text_determines}
use Rattle.std.specs.Option.{option_map}
use Rattle.ocfl_state.specs.Calls.{bytes_of}
use Rattle.ocfl_closed.specs.{Files.{IsRead}, Unchanged.{is_unchanged_by}, Internal.Checked.{is_met_by}}
use Rattle.ocfl_closed.specs.declared.check.ClosedCheck.{ClosedCheck}

-- the same bytes are read as one checkpoint
pub read_one : (bytes : Option Text) (found other : Option Checkpoint) → IsRead bytes found → IsRead bytes other → found ≡ other
read_one None found other f g = f ∙ sym g
read_one (Some b) None None f g = refl
read_one (Some b) None (Some d) f g = absurd (f d g)
read_one (Some b) (Some c) None f g = absurd (g c f)
read_one (Some b) (Some c) (Some d) f g = ap Some (text_determines b c d f g)

-- bytes that were read as one are those of the checkpoint that they are
pub read_rightly : {E : Type 0} (r : Result (Option Checkpoint) E) (bytes : Text) (kept : Option Text) (other : Option Checkpoint) → Some bytes ≡ kept → IsRead kept other
    → IfOk r (λ found. IsRead (Some bytes) found) → IfOk r (λ found. found ≡ other)
read_rightly (Ok found) bytes kept other e is read = read_one (Some bytes) found other read (subst (λ o. IsRead o other) (sym e) is)
read_rightly (Err why) bytes kept other e is read = tt

-- by which checkpoint a report is checked
pub checked_by : (bytes : Text) (found : Option Checkpoint) (check : ClosedCheck) → IsRead (Some bytes) found → ((b r : Text) → is_met_by check r ≡ is_unchanged_by (Some b) found r)
    → (kept : Option Checkpoint) → IsRead (Some bytes) kept → (report : Text) → is_met_by check report ≡ is_unchanged_by (Some bytes) kept report
checked_by bytes found check is met kept read report = met bytes report ∙ ap (λ k. is_unchanged_by (Some bytes) k report) (read_one (Some bytes) found kept is read)

pub checked_kept : {E : Type 0} (r : Result ClosedCheck E) (bytes : Text) (kept : Option Text) (other : Option Checkpoint) → Some bytes ≡ kept → IsRead kept other
    → IfOk r (λ check. (k : Option Checkpoint) → IsRead (Some bytes) k → (report : Text) → is_met_by check report ≡ is_unchanged_by (Some bytes) k report)
    → IfOk r (λ check. (report : Text) → is_met_by check report ≡ is_unchanged_by kept other report)
checked_kept (Ok check) bytes kept other e is met = λ report. met other (subst (λ o. IsRead o other) (sym e) is) report ∙ ap (λ o. is_unchanged_by o other report) e
checked_kept (Err why) bytes kept other e is met = tt

pub none_kept : (found : Option (Vec ℕ Global)) (kept : Option Text) (other : Option Checkpoint) (report : Text) → found ≡ None → option_map bytes_of found ≡ kept → true ≡ is_unchanged_by kept other report
none_kept found kept other report none is = ap (λ o. is_unchanged_by o other report) (sym (ap (option_map bytes_of) none) ∙ is)
