-- What is shown of a checkpoint or a cursor.
use Rattle.std.proofs.Common.{Option, None, Some, IfSome, sym, subst}
use Rattle.std.specs.Prelude.{⊤}
use Rattle.ocfl_tree.specs.Place.{Text}
use Rattle.ocfl_cursor.specs.Shown.{AreShown as AreCursorLines, IsShownFrom}

-- what is shown from known bytes is shown of them
pub shown_of : (b lines : Text) → IsShownFrom (Some b) lines → AreCursorLines b lines
shown_of b lines h = subst (λ t. AreCursorLines t lines) (sym h.stored) h.are

-- a stop that comes before any bytes are refused says nothing of them
pub always : (known : Option Text) → IfSome known (λ _. ⊤)
always None = tt
always (Some all) = tt
