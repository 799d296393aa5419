-- Lists that cannot be used, and maybe for want of memory.
use Rattle.std.proofs.Common.{◌≡◌, Some, String, Global, inl, inr, string_bytes}
use Rattle.std.specs.Prelude.{Result, Ok, Err, MatchResult, IfOk}
use Rattle.ocfl_tree.specs.Place.{Text}
use Rattle.ocfl_files.specs.Failing.{OrMemory, file_line, out_of_memory, usage_status}
use Rattle.ocfl_files.specs.declared.failing.Failure.{Failure}
use Rattle.ocfl_files.proofs.Failures.{says_so}
use Rattle.ocfl_reading.specs.Using.{RefusesOn}

-- what is refused with a line on a file, for which there may have been no memory
pub refused_on : {E : Type 0} (path : Text) (r : Result (String Global) E) (f : Failure) → MatchResult r (λ text. f ≡ record { status = usage_status; text = Some text }) (λ _. f ≡ out_of_memory)
    → IfOk r (λ line. (words : Text) × (string_bytes line ≡ file_line path words)) → OrMemory (RefusesOn path) f
refused_on path (Ok text) f e h = inr (h.0, says_so f usage_status text (file_line path h.0) e h.1)
refused_on path (Err x) f e h = inl e
