use Rattle.std.proofs.Common.{◌≡◌, drop}
use Rattle.ocfl_tree.specs.Listing.{kind_in}
use Rattle.ocfl_item.proofs.folder.kind_of.Given as goal

abbrev pub invariant-loop-entry : goal.invariant-loop-entry
invariant-loop-entry l = kind_in l.entries l.name ≡ kind_in (drop l.entry-index l.entries) l.name
