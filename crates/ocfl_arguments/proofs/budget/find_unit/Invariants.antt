use Rattle.std.proofs.Common.{◌≡◌, drop, map}
use Rattle.ocfl_arguments.specs.Budget.{beside}
use Rattle.ocfl_arguments.proofs.Units.{row_of}
use Rattle.ocfl_arguments.proofs.budget.find_unit.Given as goal

-- the rows so far have another text
abbrev pub invariant-loop-unit : goal.invariant-loop-unit
invariant-loop-unit l = beside (map row_of l.units) l.text ≡ beside (map row_of (drop l.unit-index l.units)) l.text
