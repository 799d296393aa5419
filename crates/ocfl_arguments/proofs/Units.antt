-- The digits and the unit of a size's text.
use Rattle.std.proofs.Common.{◌≡◌, ◌∙◌, ℕ, zero, suc, ◌+◌, ◌<◌, ◌≤◌, Bool, true, false, List, ◌∷◌, length, drop, get_or, map, Some, refl, sym, subst, arith}
use Rattle.std.proofs.lemmas.Bool.Decides.{nat_tests, same_from_decides}
use Rattle.std.proofs.lemmas.List.{at_drop_more}
use Rattle.std.proofs.lemmas.List.Sums.{prefix_len-le-length, prefix_len_passes}
use Rattle.std.proofs.lemmas.Slice.Eq.{bytes_eq-Decides}
use Rattle.std.proofs.lemmas.Str.{IsCharBoundary-start, IsCharBoundary-after_ascii}
use Rattle.std.specs.{Prelude.{◌↔◌, IsTrue}, Char.{is_ascii_digit, to_ascii_lowercase}}
use Rattle.std.specs.{List.{prefix_len}, Str.{IsCharBoundary, IsUtf8, str_eq_ignore_ascii_case}}
use Rattle.clap.specs.Words.{Text}
use Rattle.ocfl_arguments.specs.Budget.{beside}
use denote.Ref.{Bor}

-- a row of the table, as the definition has it
abbrev pub row_of : Bor Text × ℕ → Text × ℕ
row_of row = (row.0.now, row.1)

-- what `eq_ignore_ascii_case` answers is the test of the definition
pub same_test : (a b : Text) (r : Bool) → (IsTrue r ↔ (map to_ascii_lowercase a ≡ map to_ascii_lowercase b))
    → r ≡ str_eq_ignore_ascii_case a b
same_test a b r h = same_from_decides r _ h (bytes_eq-Decides _ _)

-- if the rows before one have other texts, the table gives its number if it has the text
pub row_found : (rows : List (Bor Text × ℕ)) (t : Text) (i : ℕ) (d : Bor Text × ℕ) → i < length rows
    → beside (map row_of rows) t ≡ beside (map row_of (drop i rows)) t
    → str_eq_ignore_ascii_case t (get_or rows i d).0.now ≡ true
    → Some (get_or rows i d).1 ≡ beside (map row_of rows) t
row_found rows t i d l before test =
    let here : beside (map row_of (get_or rows i d ∷ drop (i + 1) rows)) t ≡ Some (get_or rows i d).1 = rw test refl in
    sym (before ∙ at_drop_more (λ rs. beside (map row_of rs) t) rows i d l ∙ here)

-- and otherwise what the rows after it give
pub row_passed : (rows : List (Bor Text × ℕ)) (t : Text) (i : ℕ) (d : Bor Text × ℕ) → i < length rows
    → beside (map row_of rows) t ≡ beside (map row_of (drop i rows)) t
    → str_eq_ignore_ascii_case t (get_or rows i d).0.now ≡ false
    → beside (map row_of rows) t ≡ beside (map row_of (drop (i + 1) rows)) t
row_passed rows t i d l before test =
    let here : beside (map row_of (get_or rows i d ∷ drop (i + 1) rows)) t ≡ beside (map row_of (drop (i + 1) rows)) t
    = rw test refl in
    before ∙ at_drop_more (λ rs. beside (map row_of rs) t) rows i d l ∙ here

digit_is_ascii : (c : ℕ) → is_ascii_digit c ≡ true → c < 128
digit_is_ascii c h = grind (arith, nat_tests)

-- the digits that a text begins with end where it may be cut
pub digits_boundary : (t : Text) → IsUtf8 t → IsCharBoundary t (prefix_len is_ascii_digit t)
digits_boundary t u = go (prefix_len is_ascii_digit t) refl
  where
    go : (n : ℕ) → prefix_len is_ascii_digit t ≡ n → IsCharBoundary t n
    go zero e = IsCharBoundary-start t u
    go (suc n) e =
        let few : prefix_len is_ascii_digit t ≤ length t = prefix_len-le-length is_ascii_digit t in
        let digit : is_ascii_digit (get_or t n 0) ≡ true = prefix_len_passes is_ascii_digit t n 0 (omega (arith, e)) in
        let at : n + 1 ≡ suc n = omega arith in
        subst (IsCharBoundary t) at
        (IsCharBoundary-after_ascii t n u (omega (arith, e, few)) (digit_is_ascii _ digit))
