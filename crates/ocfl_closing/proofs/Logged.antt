-- The lines of rows.
use Rattle.std.proofs.Common.{◌≡◌, ℕ, Option, Result, Ok, Err, IfOk, String, string_bytes, subst}
use Rattle.std.specs.{Prelude.{OnOk}, Io.KnownBytes.{Appends}}
use Rattle.std.specs.declared.alloc.Global.{Global}
use Rattle.std.proofs.lemmas.Result.{IfOk-weaker}
use Rattle.ocfl_tree.specs.Place.{Text}
use Rattle.ocfl_accounts.specs.declared.pair.Pair.{Pair}
use Rattle.ocfl_messages.specs.Log.{IsJsonLine, row_data}
use Rattle.ocfl_messages.specs.declared.log.ClosingRow.{ClosingRow}
use Rattle.ocfl_messages.specs.declared.log.LogRow.TheVariants.{Closing}
use Rattle.ocfl_closed.specs.declared.account.Account.{Account}
use Rattle.ocfl_closing.specs.Logging.{IsLineOf, IsRowOf}

-- the line of such a row
pub line_so : {E : Type 0} (r : Result (String Global) E) (at began : ℕ) (pair : Pair) (a : Account) (digits : Text) (row : ClosingRow) → IsRowOf at began pair a digits row
    → IfOk r (λ line. IsJsonLine (string_bytes line) (row_data (Closing row))) → IfOk r (λ line. IsLineOf at began pair a digits (string_bytes line))
line_so r at began pair a digits row is h = IfOk-weaker r _ _ (λ line says. record { row = row; is = is; says = says }) h

-- a line that was appended is that one
pub logged_so : {T E : Type 0} (r : Result T E) (at began : ℕ) (pair : Pair) (a : Account) (digits line bytes : Text) (old new : Option Text) → IsLineOf at began pair a digits line → bytes ≡ line
    → OnOk r (Appends old new bytes) → OnOk r ((time : ℕ) × ((line : Text) × (IsLineOf time began pair a digits line × Appends old new line)))
logged_so (Ok x) at began pair a digits line bytes old new is e appended = (at, (line, (is, subst (Appends old new) e appended)))
logged_so (Err x) at began pair a digits line bytes old new is e appended = tt
