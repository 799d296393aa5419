-- Failures that may have wanted memory.
use Rattle.std.proofs.Common.{◌≡◌, ◌∙◌, Some, None, String, Global, inl, inr, sym, ap, subst, string_bytes}
use Rattle.std.specs.Prelude.{Result, Ok, Err, MatchResult, IfOk, ℕ}
use Rattle.std.specs.Option.{option_map}
use Rattle.ocfl_tree.specs.Place.{Text}
use Rattle.ocfl_files.specs.Failing.{OrMemory, Says, StopsOn, file_line, out_of_memory, stopped_status}
use Rattle.ocfl_files.specs.declared.failing.Failure.{Failure}

-- what is made so, or of memory
pub made_so : {E : Type 0} (Is : Failure → Type 0) (r : Result Failure E) (f : Failure) → MatchResult r (λ g. f ≡ g) (λ _. f ≡ out_of_memory) → IfOk r Is → OrMemory Is f
made_so Is (Ok g) f e h = inr (subst Is (sym e) h)
made_so Is (Err x) f e h = inl e

-- what says a text
pub says_so : (f : Failure) (exit : ℕ) (text : String Global) (line : Text) → f ≡ record { status = exit; text = Some text } → string_bytes text ≡ line → Says exit line f
says_so f exit text line e is = record {
  status = ap (λ (g : Failure). g.status) e;
  said = ap (λ (g : Failure). option_map string_bytes g.text) e ∙ ap Some is;
}

-- what says a text for which there may have been no memory
pub saying_so : {E : Type 0} (r : Result (String Global) E) (f : Failure) (line : Text) → MatchResult r (λ text. f ≡ record { status = stopped_status; text = Some text }) (λ _. f ≡ out_of_memory) → IfOk r (λ text. string_bytes text ≡ line)
    → OrMemory (Says stopped_status line) f
saying_so (Ok text) f line e is = inr (says_so f stopped_status text line e is)
saying_so (Err x) f line e is = inl e

-- a failure that stopped, and maybe for want of memory
pub stopped : (Is : Failure → Type 0) (f : Failure) → ((g : Failure) → Is g → g.status ≡ stopped_status) → OrMemory Is f → f.status ≡ stopped_status
stopped Is f of (inl e) = ap (λ (g : Failure). g.status) e
stopped Is f of (inr h) = of f h

-- a line on a file is one on that file
pub on_file : (path words : Text) (f : Failure) → OrMemory (Says stopped_status (file_line path words)) f → OrMemory (StopsOn path) f
on_file path words f (inl e) = inl e
on_file path words f (inr h) = inr (words, h)

-- where memory was refused no text is said
pub silent : {E : Type 0} (Is : Type 0) (r : Result Failure E) (f : Failure) → MatchResult r (λ g. f ≡ g) (λ _. f ≡ out_of_memory) → IfOk r (λ _. Is → ⊥) → Is → f.text ≡ None
silent Is (Ok g) f e h i = absurd (h i)
silent Is (Err x) f e h i = ap (λ (g : Failure). g.text) e
