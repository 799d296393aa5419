-- The lines that a message shows are kept.
use Rattle.std.proofs.Common.{◌≡◌, ℕ, List, [], ◌∷◌, ◌++◌, map, take, refl, ap, sym, ◌∙◌}
use Rattle.std.proofs.lemmas.List.{append-nil, take-map}
use Rattle.std.specs.{Prelude.{IfOk, MatchResult, Result, Ok, Err}}
use Rattle.ocfl_report.specs.Line.{Line}
use Rattle.ocfl_messages.specs.{Finding.{Finding, finding_of}}
use Rattle.ocfl_messages.specs.declared.finding.Finding.{Finding as MadeFinding}
use Rattle.ocfl_speaking.specs.Speaking.{lines_of}

line_at : Finding → Line
line_at f = f.line

lines_are : (ms : List MadeFinding) → lines_of ms ≡ map (λ f. f.line) (map finding_of ms)
lines_are [] = refl
lines_are (m ∷ ms) = ap (λ ls. (finding_of m).line ∷ ls) (lines_are ms)

-- the first of some lines
first_lines : (n : ℕ) (ms : List MadeFinding) (fs : List Finding) → map finding_of ms ≡ fs → lines_of (take n ms) ≡ take n (map (λ f. f.line) fs)
first_lines n ms fs e =
    lines_are (take n ms) ∙ ap (map (λ f. f.line)) (sym (take-map finding_of n ms)) ∙ sym (take-map (λ f. f.line) n (map finding_of ms)) ∙ ap (λ gs. take n (map (λ f. f.line) gs)) e

module _ {V E : Type 0} (items : V → List MadeFinding) (old new : List Line) (fs : List Finding) where
  pub some_kept : (shown : Result V E) → MatchResult shown (λ v. (n : ℕ) × (new ≡ old ++ lines_of (take n (items v)))) (λ _. new ≡ old) → IfOk shown (λ v. map finding_of (items v) ≡ fs)
      → (n : ℕ) × (new ≡ old ++ take n (map (λ f. f.line) fs))
  some_kept (Ok v) h e = (h.0, h.1 ∙ ap (λ ls. old ++ ls) (first_lines h.0 (items v) fs e))
  some_kept (Err why) h e = (0, h ∙ sym (append-nil old))
