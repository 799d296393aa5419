use Rattle.std.proofs.Common.{◌≡◌, drop}
use Rattle.ocfl_files.specs.Reasons.{words_on}
use Rattle.ocfl_files.proofs.reasons.find_in.Given as goal

-- those before the index are of other places
abbrev pub invariant-loop-reason : goal.invariant-loop-reason
invariant-loop-reason l = words_on l.kept l.place ≡ words_on (drop l.reason-index l.kept) l.place
