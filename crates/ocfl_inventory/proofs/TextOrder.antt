-- Texts that are sorted, and then each once.
use Rattle.std.proofs.Common.{◌≡◌, List, [], ◌∷◌, refl, sym, ◌∙◌, ap, subst, true, false, Bool, cond, ℕ, ◌+◌, ◌≤◌, ◌<◌, arith, map, length, get_or, String, Global, string_bytes}
use Rattle.std.proofs.{lemmas.List.Filters.{dedup_is}, lemmas.List.Sorted.{IsPermutation-map}}
use Rattle.std.proofs.lemmas.Map.Text.{is_eq-slice_cmp}
use Rattle.std.specs.{List.{dedup, dedup_from}, List.Retain.{IsFiltered, DiffersFromLast}}
use Rattle.std.specs.{List.Sorted.{IsPermutation, IsSorted}, Ordering.{is_lt, eq_by_cmp}}
use Rattle.std.specs.{Str.{bytes_eq}, Cmp.Lexicographic.{nat_list_cmp_total}}
use Rattle.ocfl_tree.specs.{Place.{Text, text_cmp, text_eq}, Ascending.{ascending}}
use Rattle.ocfl_inventory.specs.{Notes.{repeated}, Internal.Beside.{hits}}
use Rattle.ocfl_inventory.proofs.Runs.{IsUp}
use Rattle.ocfl_inventory.proofs.Once.{up_from_sorted, sorted_once, sorted_hits, alike_front}
use Rattle.ocfl_tree.proofs.Places.{text_cmp_exact}

-- the bytes of texts
abbrev pub written : List (String Global) → List Text
written xs = map string_bytes xs

abbrev pub same_written : String Global → String Global → Bool
same_written a b = bytes_eq (string_bytes a) (string_bytes b)

abbrev pub written_sorted : List (String Global) → Type 0
written_sorted xs = (k : ℕ) (d : String Global) → 0 ≤ k → k + 1 < length xs → is_lt (text_cmp (string_bytes (get_or xs (k + 1) d)) (string_bytes (get_or xs k d))) ≡ false

written_dedup_from : (k : String Global) (xs : List (String Global)) → written (dedup_from same_written k xs) ≡ dedup_from text_eq (string_bytes k) (written xs)
written_dedup_from k [] = refl
written_dedup_from k (x ∷ xs) = by (same_written x k) (written_dedup_from k xs) (written_dedup_from x xs)
    ∙ ap (λ b. cond b (dedup_from text_eq (string_bytes k) (written xs)) (string_bytes k ∷ dedup_from text_eq (string_bytes x) (written xs))) (sym (is_eq-slice_cmp (string_bytes x) (string_bytes k)))
  where
    by : (b : Bool) → written (dedup_from same_written k xs) ≡ dedup_from text_eq (string_bytes k) (written xs) → written (dedup_from same_written x xs) ≡ dedup_from text_eq (string_bytes x) (written xs)
        → written (cond b (dedup_from same_written k xs) (k ∷ dedup_from same_written x xs)) ≡ cond b (dedup_from text_eq (string_bytes k) (written xs)) (string_bytes k ∷ dedup_from text_eq (string_bytes x) (written xs))
    by true h g = h
    by false h g = ap (λ ys. string_bytes k ∷ ys) g

written_dedup : (xs ys : List (String Global)) → IsFiltered (DiffersFromLast same_written) [] xs ys → written ys ≡ dedup text_eq (written xs)
written_dedup xs ys h = ap written (dedup_is same_written xs ys h) ∙ by xs
  where
    by : (xs : List (String Global)) → written (dedup same_written xs) ≡ dedup text_eq (written xs)
    by [] = refl
    by (x ∷ xs) = written_dedup_from x xs

written_up : (xs : List (String Global)) → written_sorted xs → IsUp text_cmp (written xs)
written_up xs s = up_from_sorted nat_list_cmp_total text_cmp_exact (λ t. string_bytes t) xs (λ k d h. s k d (omega arith) h)

pub texts_once : (xs ys zs : List (String Global)) → IsPermutation xs ys → written_sorted ys → IsFiltered (DiffersFromLast same_written) [] ys zs → written zs ≡ ascending text_cmp (written xs)
texts_once xs ys zs p s f = written_dedup ys zs f ∙ sorted_once nat_list_cmp_total text_cmp_exact (written xs) (written ys) (IsPermutation-map (λ t. string_bytes t) xs ys p) (written_up ys s)

pub keys_repeated : (xs ys hs zs : List Text) → IsPermutation xs ys → IsSorted text_cmp ys → hs ≡ hits text_eq ys
    → IsFiltered (DiffersFromLast (eq_by_cmp text_cmp)) [] hs zs → zs ≡ repeated text_cmp text_eq xs
keys_repeated xs ys hs zs p s h f =
    dedup_is (eq_by_cmp text_cmp) hs zs f ∙ ap (dedup text_eq) h
    ∙ sorted_hits nat_list_cmp_total text_cmp_exact (alike_front nat_list_cmp_total text_cmp_exact) _ xs ys (λ z i. refl) p
    (subst (IsUp text_cmp) (itself ys) (up_from_sorted nat_list_cmp_total text_cmp_exact (λ t. t) ys (λ k d l. s k d (omega arith) l)))
  where
    itself : (ts : List Text) → map (λ t. t) ts ≡ ts
    itself [] = refl
    itself (t ∷ ts) = ap (λ us. t ∷ us) (itself ts)
