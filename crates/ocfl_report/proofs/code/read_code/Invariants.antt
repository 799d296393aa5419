use Rattle.std.proofs.Common.{◌≡◌, ℕ, ◌<◌, get_or}
use Rattle.ocfl_report.specs.{Text.{code_text}, declared.code.Code.TheVariants.{Clean}}
use Rattle.ocfl_report.proofs.code.read_code.Given as goal

abbrev pub invariant-loop-code : goal.invariant-loop-code
invariant-loop-code l = (k : ℕ) → k < l.code-index → l.text ≡ code_text (get_or l.code-items k Clean) → ⊥
