use Rattle.std.proofs.Common.{map}
use Rattle.ocfl_inventory.specs.Remark.{remark_view}
use Rattle.ocfl_item.proofs.PieceLaws.{IsPiece}
use Rattle.ocfl_item.proofs.lines.PlaceLines.into_piece.Given as goal

abbrev pub invariant-loop-remark : goal.invariant-loop-remark
invariant-loop-remark l = IsPiece l.initial.line.place (map remark_view l.yielded) l.line.place l.text.items l.found
