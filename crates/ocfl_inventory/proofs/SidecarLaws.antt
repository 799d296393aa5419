-- The computation reads just the grammar.
use Rattle.std.proofs.Common.{◌≡◌, ◌↔◌, List, [], ◌∷◌, ◌++◌, refl, sym, ◌∙◌, ap, true, false, Bool, ℕ, ◌<◌, arith, take, drop, length, codes, Option, Some, None, ltb-true, lt-ltb, eqb-true, eq-eqb, leb-true, le-leb}
use Rattle.std.proofs.{Math.Seq.{drop-append_seam, take-append_seam}, lemmas.Bool.{and_parts}, lemmas.List.{take-append-drop}}
use Rattle.std.specs.Prelude.{◌≢◌, cond, option_and_then, ◌&&◌, ◌==◌, nat_lt, nat_le, nat_eq, Result, Ok, Err}
use Rattle.std.specs.{List.{list_all, starts_with}, Cmp.Lexicographic.{bytes_decides}}
use Rattle.hex.specs.{Hex.{decode_of}, declared.error.FromHexError.{FromHexError}}
use Rattle.ocfl_tree.proofs.Bools.{and_both}
use Rattle.ocfl_tree.specs.Place.{Text}
use Rattle.ocfl_inventory.specs.Sidecar.{is_blank, is_tail, sidecar_digits, leading, IsSidecar, decoded, is_after_digits, sidecar_of_len, sidecar_of}
use Rattle.ocfl_digest.specs.declared.algorithm.Algorithm.{Algorithm}

all_taken : (p : ℕ → Bool) (xs : Text) → list_all p (leading p xs) ≡ true
all_taken p [] = refl
all_taken p (x ∷ xs) = by (p x) refl (all_taken p xs)
  where
    by : (b : Bool) → p x ≡ b → list_all p (leading p xs) ≡ true → list_all p (cond b (x ∷ leading p xs) []) ≡ true
    by true e h = and_both _ _ e h
    by false e h = refl

taken_and_rest : (p : ℕ → Bool) (xs : Text) → leading p xs ++ drop (length (leading p xs)) xs ≡ xs
taken_and_rest p [] = refl
taken_and_rest p (x ∷ xs) = by (p x) (taken_and_rest p xs)
  where
    by : (b : Bool) → leading p xs ++ drop (length (leading p xs)) xs ≡ xs → cond b (x ∷ leading p xs) [] ++ drop (length (cond b (x ∷ leading p xs) [])) (x ∷ xs) ≡ x ∷ xs
    by true h = ap (λ ys. x ∷ ys) h
    by false h = refl

taken_all : (p : ℕ → Bool) (xs : Text) (y : ℕ) (ys : Text) → list_all p xs ≡ true → p y ≡ false → leading p (xs ++ y ∷ ys) ≡ xs
taken_all p [] y ys h k = ap (λ b. cond b (y ∷ leading p ys) []) k
taken_all p (x ∷ xs) y ys h k =
    let parts = and_parts _ _ h in
    ap (λ b. cond b (x ∷ leading p (xs ++ y ∷ ys)) []) parts.0 ∙ ap (λ zs. x ∷ zs) (taken_all p xs y ys parts.1 k)

nonempty_length : (xs : Text) → xs ≢ [] → 0 < length xs
nonempty_length [] h = absurd (h refl)
nonempty_length (x ∷ xs) h = omega arith

length_nonempty : (xs : Text) → 0 < length xs → xs ≢ []
length_nonempty [] h e = omega (arith, h)
length_nonempty (x ∷ xs) h e = cc

decoded_some : (digits : Text) (d : List ℕ) → (decoded digits ≡ Some d) ↔ (decode_of digits ≡ Ok d)
decoded_some digits d = by (decode_of digits)
  where
    by : (r : Result (List ℕ) FromHexError) → (elim r as (λ _. Option (List ℕ)) [ Ok x ↦ Some x | Err e ↦ None ] ≡ Some d) ↔ (r ≡ Ok d)
    by (Ok x) = (λ e. let f : x ≡ d = cc in ap Ok f, λ e. let f : x ≡ d = cc in ap Some f)
    by (Err e) = (λ h. absurd cc, λ h. absurd cc)

module _ (n : ℕ) (b : Text) (d : List ℕ) (a : Algorithm) (digits_are : sidecar_digits a ≡ Some n) where
  pub from_test : sidecar_of_len n b ≡ Some d → IsSidecar b a d
  from_test h = by _ refl h
    where
      rest : Text
      rest = drop n b

      gap : Text
      gap = leading is_blank rest

      name : Text
      name = drop (length gap) rest

      build : nat_le (length b) 4096 ≡ true → length (take n b) == n ≡ true → nat_lt 0 (length gap) ≡ true
          → starts_with nat_eq name (codes "inventory.json") ≡ true → list_all is_tail (drop 14 name) ≡ true → decoded (take n b) ≡ Some d → IsSidecar b a d
      build h1 h2 h3 h4 h5 h6 =
          let spelled : codes "inventory.json" ≡ take 14 name = (bytes_decides _ _).0 h4 in
          let name_is : name ≡ codes "inventory.json" ++ drop 14 name = sym (ap (λ x. x ++ drop 14 name) spelled ∙ take-append-drop 14 name) in
          let rest_is : rest ≡ gap ++ (codes "inventory.json" ++ drop 14 name) = sym (taken_and_rest is_blank rest) ∙ ap (λ x. gap ++ x) name_is in
          record {
            digits = take n b;
            gap = gap;
            tail = drop 14 name;
            whole = sym (take-append-drop n b) ∙ ap (λ x. take n b ++ x) rest_is;
            short = leb-true _ _ h1;
            as_many = digits_are ∙ ap Some (sym (eqb-true _ _ h2));
            is_digest = (decoded_some (take n b) d).0 h6;
            some_blank = length_nonempty gap (ltb-true _ _ h3);
            blanks = all_taken is_blank rest;
            ends = h5;
          }

      by : (t : Bool) → nat_le (length b) 4096 && (length (take n b) == n && is_after_digits (drop n b)) ≡ t → cond t (decoded (take n b)) None ≡ Some d → IsSidecar b a d
      by true e k =
          let one = and_parts _ _ e in
          let two = and_parts _ _ one.1 in
          let three = and_parts _ _ two.1 in
          let four = and_parts _ _ three.1 in
          build one.0 two.0 three.0 four.0 four.1 k
      by false e k = absurd cc

  after_gap : (gap tail : Text) → gap ≢ [] → list_all is_blank gap ≡ true → list_all is_tail tail ≡ true → is_after_digits (gap ++ (codes "inventory.json" ++ tail)) ≡ true
  after_gap gap tail some blanks ends =
      let rest : Text = gap ++ (codes "inventory.json" ++ tail) in
      let test : Text → Bool = λ g. nat_lt 0 (length g) && (starts_with nat_eq (drop (length g) rest) (codes "inventory.json") && list_all is_tail (drop 14 (drop (length g) rest))) in
      let gap_is : leading is_blank rest ≡ gap = taken_all is_blank gap 105 (drop 1 (codes "inventory.json") ++ tail) blanks refl in
      let name_is : drop (length gap) rest ≡ codes "inventory.json" ++ tail = drop-append_seam gap (codes "inventory.json" ++ tail) in
      let spelled : starts_with nat_eq (drop (length gap) rest) (codes "inventory.json") ≡ true = ap (λ x. starts_with nat_eq x (codes "inventory.json")) name_is in
      let ended : list_all is_tail (drop 14 (drop (length gap) rest)) ≡ true = ap (λ x. list_all is_tail (drop 14 x)) name_is ∙ ends in
      ap test gap_is ∙ and_both _ _ (lt-ltb _ _ (nonempty_length gap some)) (and_both _ _ spelled ended)

  pub to_test : IsSidecar b a d → sidecar_of_len n b ≡ Some d
  to_test s =
      let counts : Some n ≡ Some (length s.digits) = sym digits_are ∙ s.as_many in
      let size : n ≡ length s.digits = cc in
      let after : Text = s.gap ++ (codes "inventory.json" ++ s.tail) in
      let digits_is : take n b ≡ s.digits = (λ i. take (size i) (s.whole i)) ∙ take-append_seam s.digits after in
      let rest_is : drop n b ≡ after = (λ i. drop (size i) (s.whole i)) ∙ drop-append_seam s.digits after in
      let h1 : nat_le (length b) 4096 ≡ true = le-leb _ _ s.short in
      let h2 : length (take n b) == n ≡ true = eq-eqb _ _ (ap length digits_is ∙ sym size) in
      let h3 : is_after_digits (drop n b) ≡ true = ap is_after_digits rest_is ∙ after_gap s.gap s.tail s.some_blank s.blanks s.ends in
      let h4 : decoded (take n b) ≡ Some d = ap decoded digits_is ∙ (decoded_some s.digits d).1 s.is_digest in
      ap (λ t. cond t (decoded (take n b)) None) (and_both _ _ h1 (and_both _ _ h2 h3)) ∙ h4

-- the computation answers a digest exactly if the grammar holds
pub sidecar_is : (b : Text) (a : Algorithm) (d : List ℕ) → (sidecar_of a b ≡ Some d) ↔ IsSidecar b a d
sidecar_is b a d = by (sidecar_digits a) refl
  where
    by : (count : Option ℕ) → sidecar_digits a ≡ count → (option_and_then (λ n. sidecar_of_len n b) count ≡ Some d) ↔ IsSidecar b a d
    by None e = (λ h. absurd cc, λ s. absurd (let counts = sym e ∙ s.as_many in cc))
    by (Some n) e = (λ h. from_test n b d a e h, λ s. to_test n b d a e s)
