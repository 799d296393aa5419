use Rattle.std.proofs.Common.{◌≡◌, length, map, take, drop}
use Rattle.ocfl_messages.specs.Finding.{filled, finding_of}
use Rattle.ocfl_messages.proofs.gravest.fill_all.Given as goal

-- those before the index are filled, and the others are as they were
abbrev pub invariant-loop-index : goal.invariant-loop-index
invariant-loop-index l = record {
  done : map finding_of (take l.index l.findings.items) ≡ map (filled l.files) (map finding_of (take l.index l.fn.findings.items));
  rest : drop l.index l.findings.items ≡ drop l.index l.fn.findings.items;
  same : length l.findings.items ≡ length l.fn.findings.items;
}
