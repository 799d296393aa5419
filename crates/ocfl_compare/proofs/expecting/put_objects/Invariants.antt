use Rattle.std.proofs.Common.{◌≡◌, ◌++◌, All, map, take}
use Rattle.ocfl_tree.specs.Name.{IsPlace}
use Rattle.ocfl_report.specs.Text.{lines_text}
use Rattle.ocfl_compare.specs.Internal.Listing.{as_object}
use Rattle.ocfl_compare.proofs.expecting.put_objects.Given as goal

abbrev pub invariant-loop-place : goal.invariant-loop-place
invariant-loop-place l = record {
  text : l.text.items ≡ l.fn.text.items ++ lines_text (map as_object (take l.place-index l.places));
  names : All IsPlace (take l.place-index l.places);
}
