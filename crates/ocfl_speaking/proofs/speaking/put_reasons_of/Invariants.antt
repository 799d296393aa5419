use Rattle.std.proofs.Common.{◌≡◌, length, map, take, drop}
use Rattle.ocfl_messages.specs.Finding.{finding_of}
use Rattle.ocfl_speaking.specs.Speaking.{with_reason}
use Rattle.ocfl_speaking.proofs.speaking.put_reasons_of.Given as goal

-- those before the index have their reasons, and the others are as they were
abbrev pub invariant-loop-index : goal.invariant-loop-index
invariant-loop-index l = record {
  done : map finding_of (take l.index l.findings.items) ≡ map (with_reason l.reasons) (map finding_of (take l.index l.fn.findings.items));
  rest : drop l.index l.findings.items ≡ drop l.index l.fn.findings.items;
  same : length l.findings.items ≡ length l.fn.findings.items;
}
