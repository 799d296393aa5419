use Rattle.std.proofs.Common.{◌≡◌, map, take}
use Rattle.ocfl_tree.specs.Place.{Text}
use Rattle.ocfl_item.specs.{Internal.FileLines.{HasDigests}, Internal.Lines.{Adds}, Pending.{expected_view}}
use Rattle.ocfl_rules.specs.Inventories.{unexpected_notes}
use Rattle.ocfl_item.proofs.file_lines.add_each_unexpected.Given as goal

abbrev pub invariant-loop-entry : goal.invariant-loop-entry
invariant-loop-entry l =
    (l.lines.place ≡ l.initial.lines.place)
    × ((bytes : Text) → HasDigests (map (λ e. e.algorithm) l.expected) bytes l.digests → Adds l.initial.lines l.lines (unexpected_notes bytes (map expected_view (take l.entry-index l.expected))))
