-- Paths and their elements.
use Rattle.std.proofs.Common.{◌≡◌, ℕ, ◌+◌, ◌<◌, List, [], ◌∷◌, ◌++◌, Bool, true, false, refl, sym, ◌∙◌, ap, map, Bor, length, Option, Some, None, arith, lit<, get_or, drop, drop-cons, add-one, append_assoc, filter_map, ◌≤◌, String, Global, string_bytes}
use Rattle.std.proofs.lemmas.Bool.Decides.{nat_tests}
use Rattle.std.proofs.lemmas.List.{append-nil, at_drop_all}
use Rattle.std.proofs.lemmas.List.Splits.{slice_split_none, slice_split_first, length-slice_split}
use Rattle.std.proofs.lemmas.List.Sums.{fails_before_first}
use Rattle.std.proofs.lemmas.Str.Pattern.{IsSplitOnceResult, split_once_first}
use Rattle.std.specs.Prelude.{◌==◌, ◌||◌, ◌&&◌, nat_le, nat_lt, count_by}
use Rattle.std.specs.List.{cons_option, list_any, list_all, position_or_len, before_first, after_first}
use Rattle.std.specs.{Option.{MatchOption}, Str.{all_ascii_digits}, Char.{is_ascii_digit}}
use Rattle.ocfl_inventory.specs.{Note.{Note}, Notes.{fault_note}}
use Rattle.ocfl_inventory.specs.ListedPath.{is_too_long_or_nul, is_version_name, is_content_path, is_too_long}
use Rattle.ocfl_tree.specs.{Place.{Text, Place, text_eq}, Path.{elements}}
use Rattle.ocfl_tree.proofs.{PathNames.{has_zero, zeros}, PathOrders.{some_element}}

pub digits_are : (bs : Text) → all_ascii_digits bs ≡ list_all is_ascii_digit bs
digits_are [] = refl
digits_are (c ∷ bs) = ap (λ b. is_ascii_digit c && b) (digits_are bs)

-- ---- how many elements

pub deep_is : (t : Text) (n : ℕ) → n ≡ count_by (λ b. b == 47) t → nat_le 128 n ≡ nat_lt 128 (length (elements t))
deep_is t n h = ap (nat_le 128) h ∙ one_more (count_by (λ b. b == 47) t) ∙ ap (nat_lt 128) (sym (length-slice_split (λ b. b == 47) t))
  where
    one_more : (m : ℕ) → nat_le 128 m ≡ nat_lt 128 (m + 1)
    one_more m = grind (arith, nat_tests)

-- ---- an element is no name

any_either : (p q : Text → Bool) (xs : Place) → list_any (λ x. p x || q x) xs ≡ (list_any p xs || list_any q xs)
any_either p q [] = refl
any_either p q (x ∷ xs) = ap (λ b. (p x || q x) || b) (any_either p q xs) ∙ by (p x) (q x) (list_any p xs) (list_any q xs)
  where
    by : (a b c d : Bool) → ((a || b) || (c || d)) ≡ ((a || c) || (b || d))
    by true b c d = refl
    by false true true d = refl
    by false true false d = refl
    by false false c d = refl

pub too_long_or_nul_is : (t : Text) → list_any is_too_long_or_nul (elements t) ≡ (list_any is_too_long (elements t) || list_any (λ b. b == 0) t)
too_long_or_nul_is t = any_either is_too_long has_zero (elements t) ∙ ap (λ b. list_any is_too_long (elements t) || b) (zeros t)

-- ---- the first elements

pub cut_first : (t : Text) (r : Option (Bor Text × Bor Text)) → IsSplitOnceResult 47 t r → MatchOption r (elements t ≡ t ∷ []) (λ x. elements t ≡ x.0.now ∷ elements x.1.now)
cut_first t r h = by r (split_once_first 47 t r h (lit< tt))
  where
    by : (o : Option (Bor Text × Bor Text))
        → MatchOption o (position_or_len (λ b. b == 47) t ≡ length t)
        (λ x. (position_or_len (λ b. b == 47) t < length t) × (x.0.now ≡ before_first (λ b. b == 47) t) × (x.1.now ≡ after_first (λ b. b == 47) t))
        → MatchOption o (elements t ≡ t ∷ []) (λ x. elements t ≡ x.0.now ∷ elements x.1.now)
    by None e = slice_split_none (λ b. b == 47) t (λ k d l. fails_before_first (λ b. b == 47) t k d (omega (arith, e, l)))
    by (Some x) w = slice_split_first (λ b. b == 47) t 0 w.0 ∙ (λ i. sym w.1 i ∷ elements (sym w.2 i))

pub content_path_from : (content t v n below rest : Text) → elements t ≡ v ∷ elements below → elements below ≡ n ∷ elements rest
    → is_content_path content (elements t) ≡ (is_version_name v && text_eq n content)
content_path_from content t v n below rest h k = ap (is_content_path content) (h ∙ ap (λ p. v ∷ p) k) ∙ by (elements rest) (some_element rest)
  where
    by : (p : Place) → (p ≡ [] → ⊥) → is_content_path content (v ∷ n ∷ p) ≡ (is_version_name v && text_eq n content)
    by [] f = absurd (f refl)
    by (m ∷ p) f = refl

-- ---- the lines of bad paths

-- the lines of texts, each of which is the note of a fault
abbrev pub faults_in : Text → List (String Global) → List Note
faults_in content xs = filter_map (fault_note content) (map string_bytes xs)

pub faults_step : (content : Text) (xs : List (String Global)) (i : ℕ) (d : String Global) (front total new : List Note) → i < length xs
    → new ≡ front ++ cons_option (fault_note content (string_bytes (get_or xs i d))) []
    → front ++ faults_in content (drop i xs) ≡ total → new ++ faults_in content (drop (i + 1) xs) ≡ total
faults_step content xs i d front total new h e so_far =
    let one : drop i xs ≡ get_or xs i d ∷ drop (i + 1) xs = drop-cons xs i d h ∙ ap (λ n. get_or xs i d ∷ drop n xs) (sym (add-one i)) in
    let note = fault_note content (string_bytes (get_or xs i d)) in
    let later : List Note = faults_in content (drop (i + 1) xs) in
    let two : faults_in content (drop i xs) ≡ cons_option note later = ap (faults_in content) one in
    ap (λ ys. ys ++ later) e ∙ append_assoc front (cons_option note []) later
    ∙ ap (λ ys. front ++ ys) (joined note later ∙ sym two) ∙ so_far
  where
    joined : (o : Option Note) (ns : List Note) → cons_option o [] ++ ns ≡ cons_option o ns
    joined None ns = refl
    joined (Some n) ns = refl

pub faults_end : (content : Text) (xs : List (String Global)) (i : ℕ) (front total : List Note) → length xs ≤ i → front ++ faults_in content (drop i xs) ≡ total → front ≡ total
faults_end content xs i front total h so_far = sym (ap (λ ns. front ++ ns) (at_drop_all (faults_in content) xs i h) ∙ append-nil front) ∙ so_far
