use Rattle.std.proofs.Common.{string_bytes}
use Rattle.ocfl_inventory.specs.Internal.Gathered.{Gathers, kept_from, bad_from}
use Rattle.ocfl_inventory.specs.Internal.Parts.{texts_among}
use Rattle.ocfl_inventory.proofs.gather.gather_values.Given as goal

abbrev pub invariant-loop-value : goal.invariant-loop-value
invariant-loop-value l = Gathers l.initial.found l.found (kept_from l.source (string_bytes l.digest) (texts_among l.yielded)) (bad_from l.source (texts_among l.yielded))
