use Rattle.std.proofs.Common.{◌≡◌, ◌≤◌, ◌*◌, ◌/◌, ◌-◌, ◌++◌, length, drop}
use Rattle.ocfl_tree.specs.{Ascending.{IsAscending}, Place.{place_cmp}}
use Rattle.ocfl_separators.specs.Separators.{AreSeparators}
use Rattle.ocfl_split.specs.Splitting.{firsts}
use Rattle.ocfl_split.proofs.cutting.cut.Given as goal

abbrev pub invariant-loop-part : goal.invariant-loop-part
invariant-loop-part l = record {
  start : l.parts ≤ 1 → l.part ≡ 1;
  rule : AreSeparators l.separators;
  above : IsAscending place_cmp (l.separators ++ drop (l.part * length l.level / l.parts) l.level);
  cut : l.separators ≡ firsts l.level l.parts (l.part - 1);
  long : length l.separators ≡ l.part - 1;
}
