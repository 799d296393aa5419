-- The text of a place's lines.
use Rattle.std.proofs.Common.{◌≡◌, List, Bool}
use Rattle.std.specs.List.{list_any}
use Rattle.ocfl_tree.specs.Place.{Place, Text}
use Rattle.ocfl_report.specs.{Line.{Line, is_finding_code}, Text.{lines_text}}
use Rattle.ocfl_inventory.specs.Note.{Note, lines_at}

abbrev finds : List Line → Bool
finds lines = list_any (λ l. is_finding_code l.code) lines

-- these notes of the place p stand in the text
pub record IsPiece (p : Place) (ns : List Note) (place : Place) (text : Text) (found : Bool) : Type 0 where
  pub place_is : place ≡ p
  pub text_is : text ≡ lines_text (lines_at p ns)
  pub found_is : found ≡ finds (lines_at p ns)
