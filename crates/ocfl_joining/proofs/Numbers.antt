-- One part more.
use Rattle.std.proofs.Common.{◌≡◌, ℕ, ◌+◌, List, [], ◌∷◌, ◌++◌, All, ap, sym, subst, ◌∙◌, add-one, append-nil}
use Rattle.std.specs.Prelude.{flat_map}
use Rattle.std.proofs.lemmas.Grind.{flat_map-append}
use Rattle.std.proofs.lemmas.List.Elements.{All-append, All-cons, All-nil}
use Rattle.ocfl_joining.specs.Missing.{numbers}

pub numbers_more : (n : ℕ) → numbers (n + 1) ≡ numbers n ++ (n + 1) ∷ []
numbers_more n = ap numbers (add-one n)

pub flat_more : {A : Type 0} (f : ℕ → List A) (n : ℕ) → flat_map f (numbers (n + 1)) ≡ flat_map f (numbers n) ++ f (n + 1)
flat_more f n = ap (flat_map f) (numbers_more n) ∙ flat_map-append f (numbers n) ((n + 1) ∷ []) ∙ ap (λ xs. flat_map f (numbers n) ++ xs) (append-nil (f (n + 1)))

pub all_more : (P : ℕ → Type 0) (n : ℕ) → All P (numbers n) → P (n + 1) → All P (numbers (n + 1))
all_more P n h k = subst (All P) (sym (numbers_more n)) (All-append P (numbers n) ((n + 1) ∷ []) h (All-cons P (n + 1) [] k (All-nil P)))
