use Rattle.std.proofs.Common.{◌≡◌, inl, inr, List, [], ◌∷◌, ap}
use Rattle.ocfl_tree.specs.{Ascending.{IsAmong}, Place.{Place}}
use Rattle.ocfl_report.specs.Line.{Line}
use Rattle.ocfl_inventory.specs.Note.{Note, lines_at}
use Rattle.ocfl_inventory.proofs.laws.lines_stand_at_their_place.Goals as goal

at_place : (p : Place) (ns : List Note) (l : Line) → IsAmong (lines_at p ns) l → l.place ≡ p
at_place p [] l i = absurd i
at_place p (n ∷ ns) l (inl e) = ap (λ (x : Line). x.place) e
at_place p (n ∷ ns) l (inr i) = at_place p ns l i

pub returns : goal.returns
returns c = at_place
