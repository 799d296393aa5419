-- What is before the last slash of a path.
use Rattle.std.proofs.Common.{◌≡◌, ◌≢◌, ◌<◌, ◌≤◌, ◌+◌, ◌∙◌, ℕ, Some, None, [], ◌∷◌, ◌++◌, Option, suc, ap, sym, refl, arith, length, get_or, take, drop, ne_eqb, eqb-true, subst, true, false}
use Rattle.std.specs.Prelude.{◌==◌, MatchOption}
use Rattle.std.specs.Str.Pattern.{RFindsChar}
use Rattle.std.specs.Borrow.{Bor}
use Rattle.std.proofs.lemmas.Str.Pattern.{NoCharPasses-char, drop_at_char}
use Rattle.std.proofs.lemmas.{Bool.{cond-false, false≢true}, List.{take-append-drop}}
use Rattle.ocfl_tree.specs.Place.{Text}
use Rattle.ocfl_files.specs.Paths.{before_slash, before_with, folder_by, folder_of}

-- no byte is a slash
abbrev pub Lacks : Text → Type 0
Lacks t = (i : ℕ) → i < length t → get_or t i 0 ≢ 47

none_before : (t : Text) → Lacks t → before_slash t ≡ None
none_before [] h = refl
none_before (c ∷ t) h = ap (before_with c) (none_before t (λ i l. h (suc i) (omega arith))) ∙ cond-false _ _ _ (ne_eqb c 47 (h 0 (omega arith)))

front_before : (front name : Text) → Lacks name → before_slash (front ++ 47 ∷ name) ≡ Some front
front_before [] name h = ap (before_with 47) (none_before name h)
front_before (c ∷ front) name h = ap (before_with c) (front_before front name h)

-- the clause of `rsplit_once` at a slash
pub split_before : (t : Text) (r : Option (Bor Text × Bor Text))
    → MatchOption r (RFindsChar 47 t None) (λ x. (i : ℕ) × (j : ℕ) × RFindsChar 47 t (Some (i, j)) × (x.0.now ≡ take i t) × (x.1.now ≡ drop j t) × (i ≤ j) × (length x.0.now ≡ i) × (length x.1.now + j ≡ length t))
    → MatchOption r (before_slash t ≡ None) (λ x. before_slash t ≡ Some x.0.now)
split_before t None h = none_before t (λ i l. NoCharPasses-char 47 t i h (omega arith) l)
split_before t (Some x) h =
    let i = h.0 in
    let j = h.1 in
    let cut : drop i t ≡ 47 ∷ drop j t = drop_at_char 47 t i j h.2.1 (omega arith) in
    let lacks : Lacks (drop j t) = λ k l. NoCharPasses-char 47 (drop j t) k h.2.0 (omega arith) l in
    let whole : take i t ++ 47 ∷ drop j t ≡ t = ap (λ u. take i t ++ u) (sym cut) ∙ take-append-drop i t in
    ap before_slash (sym whole) ∙ front_before (take i t) (drop j t) lacks ∙ ap Some (sym h.3)

abbrev IsSplit : Text → Option (Bor Text × Bor Text) → Type 0
IsSplit t r = MatchOption r (RFindsChar 47 t None)
    (λ x. (i : ℕ) × (j : ℕ) × RFindsChar 47 t (Some (i, j)) × (x.0.now ≡ take i t) × (x.1.now ≡ drop j t) × (i ≤ j) × (length x.0.now ≡ i) × (length x.1.now + j ≡ length t))

abbrev IsBefore : Text → Option (Bor Text × Bor Text) → Type 0
IsBefore t r = MatchOption r (before_slash t ≡ None) (λ x. before_slash t ≡ Some x.0.now)

-- by what it gives, the folder of a file of the top, of another one, and of one that is in none
pub top_folder : (t : Text) (r : Option (Bor Text × Bor Text)) (x : Bor Text × Bor Text) → r ≡ Some x → IsSplit t r → (length x.0.now == 0) ≡ true → 47 ∷ [] ≡ folder_of t
top_folder t r x is e h = by x.0.now (subst (IsBefore t) is (split_before t r e)) h
  where
    by : (f : Text) → before_slash t ≡ Some f → (length f == 0) ≡ true → 47 ∷ [] ≡ folder_of t
    by [] e h = sym (ap folder_by e)
    by (c ∷ f) e h = let none = eqb-true (length (c ∷ f)) 0 h in absurd (omega (arith, none))

pub named_folder : (t : Text) (r : Option (Bor Text × Bor Text)) (x : Bor Text × Bor Text) → r ≡ Some x → IsSplit t r → (length x.0.now == 0) ≡ false → x.0.now ≡ folder_of t
named_folder t r x is e h = by x.0.now (subst (IsBefore t) is (split_before t r e)) h
  where
    by : (f : Text) → before_slash t ≡ Some f → (length f == 0) ≡ false → f ≡ folder_of t
    by [] e h = absurd (false≢true (sym h))
    by (c ∷ f) e h = sym (ap folder_by e)

pub no_folder : (t : Text) (r : Option (Bor Text × Bor Text)) → r ≡ None → IsSplit t r → 46 ∷ [] ≡ folder_of t
no_folder t r is e = sym (ap folder_by (subst (IsBefore t) is (split_before t r e)))
