use Rattle.std.proofs.Common.{◌≡◌, filter, drop}
use Rattle.ocfl_inventory.specs.Entries.{is_counted}
use Rattle.ocfl_inventory.proofs.declaration.next_declaration.Given as goal

abbrev pub invariant-loop-index : goal.invariant-loop-index
invariant-loop-index l = filter (is_counted l.level) (drop l.from l.entries) ≡ filter (is_counted l.level) (drop l.index l.entries)
