-- The lines of rows, and what a log is asked for.
use Rattle.std.proofs.Common.{◌≡◌, ◌∙◌, ◌++◌, ◌∷◌, [], ap, sym, subst, refl, ℕ, Result, Ok, Err, IfOk, OnOk, String, string_bytes, append_assoc}
use Rattle.std.specs.declared.alloc.Global.{Global}
use Rattle.std.proofs.lemmas.Result.{IfOk-weaker}
use Rattle.ocfl_tree.specs.Place.{Text}
use Rattle.ocfl_messages.specs.Log.{IsJsonLine, row_data}
use Rattle.ocfl_messages.specs.declared.log.LogRow.{LogRow}
use Rattle.ocfl_journal.specs.{Calls.{Showed, Given}, Rows.{IsRowLine}, Logging.{Log, Logs, LogsAll, Takes, lost_after}}

-- rows that say the same have the same line
pub line_by : {E : Type 0} (r : Result (String Global) E) (row other : LogRow) → row_data row ≡ row_data other → IfOk r (λ line. IsJsonLine (string_bytes line) (row_data row)) → IfOk r (λ line. IsRowLine (string_bytes line) other)
line_by r row other e h = IfOk-weaker r _ _ (λ line is. subst (λ d. IsJsonLine (string_bytes line) d) e is) h

-- a row whose line was taken after the time was asked for
pub logs_row : (row : ℕ → LogRow) (old mid new : Log) (time : ℕ) (made line : Text) → mid.calls ≡ old.calls ++ Showed time ∷ [] → mid.lost ≡ old.lost → IsRowLine made (row time) → line ≡ made → Takes line mid new → Logs row old new
logs_row row old mid new time made line asked same is own taken = record {
  time = time;
  line = line;
  why = taken.0;
  is = subst (λ t. IsRowLine t (row time)) (sym own) is;
  calls = ap (λ (l : Log). l.calls) taken.1 ∙ ap (λ cs. cs ++ Given line taken.0 ∷ []) asked ∙ append_assoc old.calls (Showed time ∷ []) (Given line taken.0 ∷ []);
  lost = ap (λ (l : Log). l.lost) taken.1 ∙ ap (λ l. lost_after l taken.0) same;
}

-- one row, which is this one
pub logged_as : {T E : Type 0} (r : Result T E) (row other : ℕ → LogRow) (old new : Log) → row ≡ other → OnOk r (Logs row old new) → OnOk r (LogsAll (other ∷ []) old new)
logged_as (Ok _) row other old new is h = (new, subst (λ w. Logs w old new) is h, refl)
logged_as (Err _) row other old new is h = tt
