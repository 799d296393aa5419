-- Texts with separators between them are told apart again.
use Rattle.std.proofs.Common.{◌≡◌, ◌≢◌, ℕ, List, [], ◌∷◌, ◌++◌, ◌==◌, eq-eqb, false, All, flat_map, length, length-append, arith, refl, sym, ap, subst, ◌∙◌}
use Rattle.std.proofs.lemmas.List.Splits.{slice_split_none, slice_split_at}
use Rattle.std.proofs.lemmas.List.{get_or_at}
use Rattle.std.proofs.lemmas.List.Elements.{All-nil, All-cons, All-head, All-tail, All-append, All-get_or}
use Rattle.std.specs.List.{join_with_byte, slice_split}
use Rattle.ocfl_tree.specs.Place.{Text}

-- if two texts are equal, so are their parts up to the first separator, and so is what follows
-- it
pub first_parts : (c : ℕ) (xs ys r s : Text) → All (λ b. b ≢ c) xs → All (λ b. b ≢ c) ys → xs ++ c ∷ r ≡ ys ++ c ∷ s → (xs ≡ ys) × (r ≡ s)
first_parts c [] [] r s h k e = (refl, cc)
first_parts c [] (y ∷ ys) r s h k e = let f : y ≡ c = cc in absurd (All-head (λ b. b ≢ c) y ys k f)
first_parts c (x ∷ xs) [] r s h k e = let f : x ≡ c = cc in absurd (All-head (λ b. b ≢ c) x xs h f)
first_parts c (x ∷ xs) (y ∷ ys) r s h k e =
    let f : x ≡ y = cc in
    let g : xs ++ c ∷ r ≡ ys ++ c ∷ s = cc in
    let m = first_parts c xs ys r s (All-tail (λ b. b ≢ c) x xs h) (All-tail (λ b. b ≢ c) y ys k) g in
    ((λ i. f i ∷ m.0 i), m.1)

-- a text with a separator is not empty
pub separated_not_empty : (c : ℕ) (xs r : Text) → xs ++ c ∷ r ≢ []
separated_not_empty c [] r e = cc
separated_not_empty c (x ∷ xs) r e = cc

-- texts in a row determine what they are of, if none is empty and each is told apart from what
-- follows it
module _ {A : Type 0} (Is : A → Type 0) (line : A → Text)
    (first : (x y : A) (r s : Text) → Is x → Is y → line x ++ r ≡ line y ++ s → (x ≡ y) × (r ≡ s)) (some : (x : A) (r : Text) → line x ++ r ≢ []) where
  pub texts_determine : (xs ys : List A) → All Is xs → All Is ys → flat_map line xs ≡ flat_map line ys → xs ≡ ys
  texts_determine [] [] h k e = refl
  texts_determine [] (y ∷ ys) h k e = absurd (some y (flat_map line ys) (sym e))
  texts_determine (x ∷ xs) [] h k e = absurd (some x (flat_map line xs) e)
  texts_determine (x ∷ xs) (y ∷ ys) h k e =
      let both = first x y (flat_map line xs) (flat_map line ys) (All-head Is x xs h) (All-head Is y ys k) e in
      let rest = texts_determine xs ys (All-tail Is x xs h) (All-tail Is y ys k) both.1 in
      λ i. both.0 i ∷ rest i

-- a text with a separator has it
pub separator_is_there : (c : ℕ) (xs r : Text) → All (λ b. b ≢ c) (xs ++ c ∷ r) → ⊥
separator_is_there c xs r h = All-get_or (λ b. b ≢ c) (xs ++ c ∷ r) (length xs) 0 (omega (arith, length-append xs (c ∷ r))) h (get_or_at xs c r 0 (length xs) refl)

-- what follows the first of two separators has one
pub second_is_there : (c : ℕ) (xs ys r s t : Text) → All (λ b. b ≢ c) xs → All (λ b. b ≢ c) r → xs ++ c ∷ r ≡ ys ++ c ∷ (s ++ c ∷ t) → ⊥
second_is_there c [] [] r s t h k e = let f : r ≡ s ++ c ∷ t = cc in separator_is_there c s t (subst (All (λ b. b ≢ c)) f k)
second_is_there c [] (y ∷ ys) r s t h k e = let f : r ≡ ys ++ c ∷ (s ++ c ∷ t) = cc in separator_is_there c ys (s ++ c ∷ t) (subst (All (λ b. b ≢ c)) f k)
second_is_there c (x ∷ xs) [] r s t h k e = let f : x ≡ c = cc in absurd (All-head (λ b. b ≢ c) x xs h f)
second_is_there c (x ∷ xs) (y ∷ ys) r s t h k e =
    let f : xs ++ c ∷ r ≡ ys ++ c ∷ (s ++ c ∷ t) = cc in
    second_is_there c xs ys r s t (All-tail (λ b. b ≢ c) x xs h) k f

-- what is joined at a separator that no part has is split there into the same parts
pub slice_split-join_with_byte : (c : ℕ) (x : Text) (xs : List Text) → All (All (λ b. b == c ≡ false)) (x ∷ xs) → slice_split (λ b. b == c) (join_with_byte c (x ∷ xs)) ≡ x ∷ xs
slice_split-join_with_byte c x [] h = slice_split_none (λ b. b == c) x (All-head (All (λ b. b == c ≡ false)) x [] h)
slice_split-join_with_byte c x (y ∷ xs) h =
    slice_split_at (λ b. b == c) x c (join_with_byte c (y ∷ xs)) (All-head (All (λ b. b == c ≡ false)) x (y ∷ xs) h) (eq-eqb c c refl)
    ∙ ap (λ t. x ∷ t) (slice_split-join_with_byte c y xs (All-tail (All (λ b. b == c ≡ false)) x (y ∷ xs) h))

-- what holds of the separator and of the parts' bytes holds of the bytes of the whole
pub All-join_with_byte : (P : ℕ → Type 0) (c : ℕ) → P c → (xs : List Text) → All (All P) xs → All P (join_with_byte c xs)
All-join_with_byte P c p [] h = All-nil P
All-join_with_byte P c p (x ∷ []) h = All-head (All P) x [] h
All-join_with_byte P c p (x ∷ y ∷ xs) h =
    All-append P x (c ∷ join_with_byte c (y ∷ xs)) (All-head (All P) x (y ∷ xs) h) (All-cons P c (join_with_byte c (y ∷ xs)) p (All-join_with_byte P c p (y ∷ xs) (All-tail (All P) x (y ∷ xs) h)))
