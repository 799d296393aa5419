-- The lines of declarations, one after the other.
use Rattle.std.proofs.Common.{◌≡◌, ◌∙◌, ℕ, List, [], ◌∷◌, ◌++◌, Option, Some, None, ap, append_assoc, drop, refl, sym}
use Rattle.std.specs.Option.{option_map}
use Rattle.ocfl_tree.specs.{Place.{Text}, StorageRoot.{StorageRoot, file_at}}
use Rattle.ocfl_identity.specs.Identity.{before_lines, digits_of, sum_line, sum_lines}

-- these lines come before those of the names from an index on
pub record AreBefore (root : StorageRoot) (lines : Text) (names : List Text) (start : ℕ) : Type 0 where
  pub is : option_map (λ rest. lines ++ rest) (sum_lines root (drop start names)) ≡ sum_lines root names

twice : (lines line : Text) (o : Option Text) → option_map (λ rest. (lines ++ line) ++ rest) o ≡ option_map (λ rest. lines ++ rest) (option_map (λ rest. line ++ rest) o)
twice lines line None = refl
twice lines line (Some rest) = ap Some (append_assoc lines line rest)

-- and so does the line of the next name, whose file has these digits
pub before_next : (root : StorageRoot) (lines digits : Text) (names rest : List Text) (n : Text) (i j : ℕ) → AreBefore root lines names i
    → drop i names ≡ n ∷ rest → drop j names ≡ rest → digits_of (file_at root (n ∷ [])) ≡ Some digits → AreBefore root (lines ++ sum_line digits n) names j
before_next root lines digits names rest n i j h first then there = record {
  is = ap (λ ns. option_map (λ r. (lines ++ sum_line digits n) ++ r) (sum_lines root ns)) then
      ∙ twice lines (sum_line digits n) (sum_lines root rest)
      ∙ ap (λ o. option_map (λ r. lines ++ r) (before_lines (option_map (λ d. sum_line d n) o) (sum_lines root rest))) (sym there)
      ∙ ap (λ ns. option_map (λ r. lines ++ r) (sum_lines root ns)) (sym first) ∙ h.is;
}
