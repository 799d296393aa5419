use Rattle.std.proofs.Common.{◌≡◌, drop, map}
use Rattle.ocfl_inventory.specs.TripleView.{named_view}
use Rattle.ocfl_rules.specs.Lines.{is_in_manifest}
use Rattle.ocfl_item.proofs.file_lines.is_in_manifest.Given as goal

abbrev pub invariant-loop-entry : goal.invariant-loop-entry
invariant-loop-entry l = is_in_manifest (map named_view l.named) ≡ is_in_manifest (map named_view (drop l.entry-index l.named))
