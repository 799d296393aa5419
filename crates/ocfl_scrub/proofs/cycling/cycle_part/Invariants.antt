use Rattle.std.proofs.Common.{◌≡◌, ◌≢◌, drop, map, false}
use Rattle.std.specs.Prelude.{IsTrue}
use Rattle.ocfl_cursor.specs.Cursor.{ended, new_cursor}
use Rattle.ocfl_tree.specs.StorageRoot.{StorageRoot}
use Rattle.ocfl_item.specs.Judging.{HasShortFiles}
use Rattle.ocfl_scrub.specs.{Running.{limits_of}, Starting.{part_of}, Taking.{WritesLines}}
use Rattle.ocfl_scrub.proofs.ChainRuns.{ChainSoFar}
use Rattle.ocfl_scrub.proofs.cycling.cycle_part.Given as goal

abbrev pub invariant-loop-one : goal.invariant-loop-one
invariant-loop-one g l =
    let Tree = g.T.Tree in
    let Write = g.W.Write in
    record {
      counted : l.runs ≡ l.one-index;
      counts : l.cursor.runs ≡ l.runs;
      cycle : l.cursor.cycle ≡ 1;
      option : l.cursor.further ≡ l.fn.further;
      unended : l.cursor.state ≢ ended;
      begins : l.runs ≡ 0 → l.cursor ≡ new_cursor l.fn.further;
      none_found : l.runs ≡ 0 → l.found ≡ false;
      silent : l.runs ≡ 0 → l.out ≡ l.fn.out;
      untouched : l.runs ≡ 0 → l.store ≡ l.fn.store;
      lines : WritesLines (Write.contents l.fn.out) (Write.contents l.out) l.found;
      told : IsTrue Tree.told → (root : StorageRoot) → (Tree.state l.fn.store).tree ≡ root → HasShortFiles root →
          ChainSoFar l.fn.further root (part_of l.fn.part) (Tree.state l.fn.store) (Tree.state l.store) (Write.contents l.fn.out) (Write.contents l.out)
          (map limits_of (drop l.one-index l.limits)) (map limits_of l.limits) l.cursor l.found l.runs;
    }
