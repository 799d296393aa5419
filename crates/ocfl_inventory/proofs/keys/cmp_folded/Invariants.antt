use Rattle.std.proofs.Common.{◌≡◌, drop}
use Rattle.ocfl_tree.specs.Place.{text_cmp}
use Rattle.ocfl_inventory.specs.DigestText.{folded}
use Rattle.ocfl_inventory.proofs.keys.cmp_folded.Given as goal

abbrev pub invariant-loop-index : goal.invariant-loop-index
invariant-loop-index l = text_cmp (folded (drop l.index l.text)) (folded (drop l.index l.other)) ≡ text_cmp (folded l.text) (folded l.other)
